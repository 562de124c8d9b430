-- An entry with so much of the trace in sight is decided. Assumes nothing.
use Prim.Native.Nat.{ℕ, ◌+◌, ◌≤◌, ◌<◌}
use mathlib.Core.Path.{◌≡◌, refl, ap}
use mathlib.Core.List.{List, ◌++◌}
use native.Mathlib.Omega.{arith}
use lib.ListN.{length}
use Rattle.std.specs.Prelude.{Option, Some, None}
use Rattle.leb128.specs.Leb128.{Decoded, decoded_at, octets_of, groups}
use Rattle.leb128.specs.RoundTrips.{Octets}
use Rattle.leb128.proofs.Octets.{octets_small}
use Rattle.leb128.proofs.Stable.{first_octets}
use Rattle.fields.specs.Fields.{Value}
use Rattle.fields.specs.Reading.{Reading, read, refused, read_at}
use Rattle.field_laws.specs.Sight.{longest, sight, Final}
use Rattle.fields.specs.declared.refusal.Refusal.TheVariants.{Cut, UnknownKind, TooLarge}
use Rattle.field_laws.proofs.Sight.{number_stays, number_same, decided}
use Rattle.field_laws.proofs.Told.{number_is}
use Rattle.entries.specs.Kinds.{kind_number, fields_of}
use Rattle.entries.specs.Entries.{kind_of, as_entry, of_kind, after_kind, entry_at}
use Rattle.entry_laws.specs.Sight.{entry_most, entry_sight, InSight}
use Rattle.entries.specs.declared.kind.Kind.{Kind}
use Rattle.entries.specs.declared.kind.Kind.TheVariants.{OpenBoth, AddIpsec, CloseIke, CloseIpsec, Request}
use Rattle.entries.specs.declared.kind.Kind.TheVariants.{Policy, CheckResponse, Clone, MarkDeletion}
use Rattle.entry_laws.proofs.RoundTrips.{kind_was}

each_kind : (k : Kind) → 1 + sight (fields_of k) ≤ entry_sight
unfolding octets_of groups
each_kind OpenBoth = omega arith
each_kind AddIpsec = omega arith
each_kind CloseIke = omega arith
each_kind CloseIpsec = omega arith
each_kind Request = omega arith
each_kind Policy = omega arith
each_kind CheckResponse = omega arith
each_kind Clone = omega arith
each_kind MarkDeletion = omega arith

exactly : 1 + sight (fields_of Request) ≡ entry_sight
unfolding octets_of groups
exactly = refl

as_long : 1 + longest (fields_of Request) ≡ entry_most
unfolding octets_of groups
as_long = refl

below : (k : Kind) → kind_number k < 128
below OpenBoth = omega arith
below AddIpsec = omega arith
below CloseIke = omega arith
below CloseIpsec = omega arith
below Request = omega arith
below Policy = omega arith
below CheckResponse = omega arith
below Clone = omega arith
below MarkDeletion = omega arith

-- a known kind has one octet
kind_octet : (n : ℕ) (k : Kind) → kind_of n ≡ Some k → length (octets_of n) ≡ 1
kind_octet n k e = rw (kind_was n k e) (ap length (octets_small (kind_number k) (below k)))

final_entry : (k : Kind) (r : Reading (Value (fields_of k))) → Final (as_entry k r) → Final r
final_entry k (read v sl n) z = tt
final_entry k (refused Cut sl) z = z
final_entry k (refused UnknownKind sl) z = tt
final_entry k (refused TooLarge sl) z = tt

module _ (s later : List ℕ) (o : Octets (s ++ later)) (at : ℕ) where
  here : Octets s
  here = first_octets s later o

  in_sight : at + entry_sight ≤ length s → entry_at (s ++ later) at ≡ entry_at s at
  unfolding entry_at
  in_sight h = rw (number_same s later o at (omega arith)) (go (decoded_at s at) refl)
    where
      of : (n m : ℕ) → decoded_at s at ≡ Some (n, m) → (k : Option Kind) → kind_of n ≡ k → of_kind (s ++ later) m k ≡ of_kind s m k
      of n m d None e = refl
      of n m d (Some k) e =
          let i = number_is s at n m here d in
          let l = kind_octet n k e in
          let w = each_kind k in
          ap (as_entry k) (decided.in_sight (fields_of k) s later m o (omega (arith, i.place)))

      go : (d : Decoded) → decoded_at s at ≡ d → after_kind (s ++ later) d ≡ after_kind s d
      go None e = refl
      go (Some (n, m)) e = of n m e (kind_of n) refl

  stays : at ≤ length s → Final (entry_at s at) → entry_at (s ++ later) at ≡ entry_at s at
  unfolding entry_at
  stays h z = go (decoded_at s at) refl z
    where
      of : (m : ℕ) → m ≤ length s → (k : Option Kind) → Final (of_kind s m k) → of_kind (s ++ later) m k ≡ of_kind s m k
      of m l None y = refl
      of m l (Some k) y =
          ap (as_entry k) (decided.stays (fields_of k) s later m o l (final_entry k (read_at (fields_of k) s m) y))

      go : (d : Decoded) → decoded_at s at ≡ d → Final (after_kind s d)
          → after_kind (s ++ later) (decoded_at (s ++ later) at) ≡ after_kind s (decoded_at s at)
      go None e y = absurd y
      go (Some (n, m)) e y = rw (number_stays s later o at n m h e, e) (of m (number_is s at n m here e).end (kind_of n) y)

pub sight_of_an_entry : InSight
sight_of_an_entry =
    record {
      in_sight = λ s later at o h. in_sight s later o at h;
      stays = λ s later at o h z. stays s later o at h z;
      each_kind = each_kind;
      exactly = exactly;
      as_long = as_long;
    }
