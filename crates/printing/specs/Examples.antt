-- Trusted. Lines of 02 and of docs/ that the definitions give. Shown in proofs/Examples.antt.
use Rattle.std.specs.Prelude.{◌≡◌, true, false, ◌∷◌, replicate}
use Rattle.address.specs.declared.pair.Pair.{Pair}
use Rattle.wording.specs.Text.{ascii}
use Rattle.printing.specs.Lines.{entry_line, refusal_line, pair_line}

-- 192.0.2.1 to 198.51.100.1
abbrev pub pair_shown : Pair
pair_shown =
    record {
      family = 4;
      source = 192 ∷ 0 ∷ 2 ∷ 1 ∷ replicate 12 0;
      destination = 198 ∷ 51 ∷ 100 ∷ 1 ∷ replicate 12 0;
      source_port = 4500;
      destination_port = 500;
    }

pub record Examples : Type 0 where
  -- "the trace `02 07` (by E9 `02 07 00`) prints the one line `0 4 none none`"
  pub closed : entry_line 0 4 0 0 ≡ ascii "0 4 none none\n"
  pub applied : entry_line 10 0 1 2 ≡ ascii "10 0 applied stale\n"
  pub replaced : entry_line 11 0 2 1 ≡ ascii "11 0 stale replaced\n"
  pub refused : refusal_line 21 43 ≡ ascii "21 at 43\n"
  pub ike : pair_line false 7 pair_shown
      ≡ ascii "ike 7 4 c0000201000000000000000000000000 c6336401000000000000000000000000 4500 500\n"
  pub ipsec : pair_line true 18446744073709551615 pair_shown
      ≡ ascii
      "ipsec 18446744073709551615 4 c0000201000000000000000000000000 c6336401000000000000000000000000 4500 500\n"
