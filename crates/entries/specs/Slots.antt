-- Trusted. How many slots are lent for an entry: as many as the widest kind has, a policy. Shown in proofs/Widths.antt.
use Rattle.std.specs.Prelude.{ℕ, ◌≤◌, ◌≡◌}
use Rattle.fields.specs.Slots.{width}
use Rattle.entries.specs.Kinds.{fields_of}
use Rattle.entries.specs.declared.kind.Kind.{Kind}
use Rattle.entries.specs.declared.kind.Kind.TheVariants.{Policy}

-- a policy's count, five for each of its 16 places, and its operator behind them
abbrev pub entry_slots : ℕ
entry_slots = 82

abbrev pub Enough : Type 0
Enough = (k : Kind) → width (fields_of k) ≤ entry_slots

pub record Widest : Type 0 where
  pub enough : Enough
  -- and no fewer
  pub needed : width (fields_of Policy) ≡ entry_slots
