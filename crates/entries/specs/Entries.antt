-- Trusted. An entry of a trace: written, and read at an offset of a buffer (02, E3).
--   Entry              a kind and the values of its fields
--   entry_octets e      how it is written
--   entry_at s at       reading one
use Rattle.std.specs.Prelude.{ℕ, Bool, cond, List, [], ◌++◌, eqb, Option, Some, None, Result, Ok, Err}
use Rattle.leb128.specs.Leb128.{Decoded, decoded_at, octets_of}
use Rattle.fields.specs.Fields.{Value, fits, octets}
use Rattle.fields.specs.Reading.{Reading, read, refused, read_at}
use Rattle.fields.specs.declared.refusal.Refusal.{Refusal}
use Rattle.fields.specs.declared.refusal.Refusal.TheVariants.{Cut, UnknownKind}
use Rattle.entries.specs.Kinds.{kind_number, fields_of}
use Rattle.entries.specs.declared.kind.Kind.{Kind}
use Rattle.entries.specs.declared.kind.Kind.TheVariants.{OpenBoth, AddIpsec, CloseIke, CloseIpsec, Request}
use Rattle.entries.specs.declared.kind.Kind.TheVariants.{Policy, CheckResponse, Clone, MarkDeletion}

pub record Entry : Type 0 where
  pub kind : Kind
  pub values : Value (fields_of kind)

abbrev pub entry_fits : Entry → Bool
entry_fits e = fits (fields_of e.kind) e.values

abbrev pub entry_octets : Entry → List ℕ
entry_octets e = octets_of (kind_number e.kind) ++ octets (fields_of e.kind) e.values

-- ---- reading one
abbrev pub kind_of : ℕ → Option Kind
kind_of n =
    cond (eqb n 0) (Some OpenBoth)
    (cond (eqb n 1) (Some AddIpsec)
    (cond (eqb n 2) (Some CloseIke)
    (cond (eqb n 3) (Some CloseIpsec)
    (cond (eqb n 4) (Some Request)
    (cond (eqb n 5) (Some Policy)
    (cond (eqb n 6) (Some CheckResponse)
    (cond (eqb n 7) (Some Clone) (cond (eqb n 8) (Some MarkDeletion) None))))))))

abbrev pub as_entry : (k : Kind) → Reading (Value (fields_of k)) → Reading Entry
as_entry k (read v slots next) = read (record { kind = k; values = v }) slots next
as_entry k (refused why slots) = refused why slots

-- "21 unknown kind"
abbrev pub of_kind : List ℕ → ℕ → Option Kind → Reading Entry
of_kind s at None = refused UnknownKind []
of_kind s at (Some k) = as_entry k (read_at (fields_of k) s at)

-- the kind is read as a number first: 20, then 21
abbrev pub after_kind : List ℕ → Decoded → Reading Entry
after_kind s None = refused Cut []
after_kind s (Some (n, next)) = of_kind s next (kind_of n)

unfoldable pub entry_at : List ℕ → ℕ → Reading Entry
entry_at s at = after_kind s (decoded_at s at)

-- what is told: its kind and the offset after it, or why it is refused
abbrev pub entry_step : Reading Entry → Result (Kind × ℕ) Refusal
entry_step (read e slots next) = Ok (e.kind, next)
entry_step (refused why slots) = Err why
