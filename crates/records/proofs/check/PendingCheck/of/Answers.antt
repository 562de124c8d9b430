-- A cookie of a length that can be sent stands in the octets, and zeros behind it.
use Rattle.std.proofs.Common.{◌≡◌, ◌∙◌, ◌++◌, ℕ, List, sym, true, length, drop, replicate, arith}
use Rattle.std.proofs.lemmas.List.{drop-replicate}
use lib.Seq.{take_all}
use Rattle.octets.specs.Limits.{cookie_most}
use Rattle.octets.specs.Lists.{first_of}
use Rattle.records.specs.Pending.{cookie_sized, check_of}
use Rattle.records.proofs.check.PendingCheck.of.Goals as goal

filled : (o : List ℕ) → o ++ drop (length o) (replicate cookie_most 0) ≡ first_of cookie_most 0 (length o) o
filled o = rw (drop-replicate {X = ℕ} (length o) cookie_most 0, take_all (length o) o (omega arith))

pub returns : goal.returns
unfolding check_of
returns c =
    let fits : cookie_sized (length c.args.cookie.now) ≡ true = sym c.cookie_sized.ensures ∙ c.if-not-cookie_sized.false in
    rw (fits, c.copy_from_slice.ensures.after, ← filled c.args.cookie.now)
