-- A record of another owner, or a free place, is left as it stands.
use Rattle.std.proofs.Common.{◌≡◌, ◌≢◌, ℕ, sym, nat_eq}
use Rattle.std.proofs.lemmas.Bool.{ne_eqb}
use Rattle.address.specs.declared.pair.Pair.{Pair}
use Rattle.records.specs.Records.{follows, new_ipsec}
use Rattle.records.specs.declared.ipsec.IpsecRecord.{IpsecRecord}
use Rattle.walks.proofs.Choices.{unchanged}

pub stays : (owner : ℕ) (pair : Pair) (r : IpsecRecord) → r.owner ≢ owner → follows owner pair r ≡ r
stays owner pair r h =
    sym (unchanged (nat_eq r.spi 0) (nat_eq r.owner owner) r (new_ipsec r.spi r.owner pair) (ne_eqb r.owner owner h))
