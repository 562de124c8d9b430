-- Inner. Eight octets of a list as one number, the first the lowest: equal numbers have equal octets.
use Rattle.std.specs.Prelude.{ℕ, ◌+◌, ◌*◌, List, get_or}

abbrev pub two_of : ℕ → ℕ → ℕ
two_of x y = x + y * 256

abbrev pub four_of : ℕ → ℕ → ℕ → ℕ → ℕ
four_of x y z w = two_of x y + two_of z w * 65536

abbrev pub eight_at : List ℕ → ℕ → ℕ
eight_at octets i =
    let at : ℕ → ℕ = λ k. get_or octets (i + k) 0 in
    four_of (get_or octets i 0) (at 1) (at 2) (at 3) + four_of (at 4) (at 5) (at 6) (at 7) * 4294967296
