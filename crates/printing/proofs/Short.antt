-- How long a line is, from how long its words are. Assumes nothing.
use Prim.Native.Nat.{ℕ, ◌+◌, ◌^◌, ◌≤◌, ◌<◌}
use mathlib.Core.Path.{◌≡◌, refl}
use mathlib.Core.Bool.{Bool, true, false, cond}
use mathlib.Core.List.{List, [], ◌∷◌}
use native.Mathlib.Omega.{arith}
use lib.Dec.{eqb}
use lib.ListN.{length, length-append}
use Rattle.address.specs.declared.pair.Pair.{Pair}
use Rattle.wording.specs.Text.{ascii, decimal, joined}
use Rattle.wording.specs.Chosen.{outcome_word, table_word}
use Rattle.printing.specs.Lines.{pair_words}
use Rattle.printing.specs.Short.{Short, PairFields}
use Rattle.wording.proofs.Digits.{at_most_twenty, at_most_ten, at_most_five, at_most_three}
use Rattle.wording.proofs.HexDigits.{length-hex}

-- each word, and the octet behind it
sum : List (List ℕ) → ℕ
sum [] = 0
sum (w ∷ ws) = length w + 1 + sum ws

length-joined : (ws : List (List ℕ)) (after : ℕ) → length (joined ws after) ≡ sum ws
unfolding joined sum
length-joined [] after = refl
length-joined (w ∷ []) after = rw (length-append w (after ∷ [])) (omega arith)
length-joined (w ∷ v ∷ ws) after =
    let ih = length-joined (v ∷ ws) after in
    rw (length-append w (32 ∷ joined (v ∷ ws) after)) (omega arith)

outcome_short : (done : List ℕ) (told : ℕ) → length done ≤ 8 → length (outcome_word done told) ≤ 8
outcome_short done told h = go (eqb told 1) (eqb told 2)
  where
    go : (a b : Bool) → length (cond a done (cond b (ascii "stale") (ascii "none"))) ≤ 8
    go true b = h
    go false true = omega arith
    go false false = omega arith

pair_short : (pair : Pair) → PairFields pair → sum (pair_words pair) ≤ 82
unfolding sum
pair_short pair f =
    let a = at_most_three pair.family f.family in
    let b = length-hex pair.source in
    let c = length-hex pair.destination in
    let d = at_most_five pair.source_port f.source_port in
    let e = at_most_five pair.destination_port f.destination_port in
    let g = f.source in
    let h = f.destination in
    omega arith

table_short : (ipsec : Bool) (spi : ℕ) → spi < 2 ^ cond ipsec 32 64
    → length (table_word ipsec) + length (decimal spi) ≤ 23
table_short true spi h = let a = at_most_ten spi h in omega arith
table_short false spi h = let a = at_most_twenty spi h in omega arith

pub short : Short
unfolding sum
short =
    record {
      room = omega arith;
      entry =
          λ ordinal number update list a b.
          rw (length-joined _ 10)
          (omega (
            arith,
            at_most_twenty ordinal a,
            at_most_three number b,
            outcome_short (ascii "applied") update
                (omega arith),
            outcome_short (ascii "replaced") list (omega arith),
          ));
      refusal =
          λ number offset a b.
          rw (length-joined _ 10) (omega (arith, at_most_three number a, at_most_twenty offset b));
      of_pair =
          λ ipsec spi pair a f.
          rw (length-joined _ 10) (omega (arith, table_short ipsec spi a, pair_short pair f));
    }
