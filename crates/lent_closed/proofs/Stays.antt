-- A record of another owner, or a free place, is left as it stands.
use Rattle.std.proofs.Common.{◌≡◌, ◌≢◌, ℕ, sym, nat_eq}
use Rattle.std.proofs.lemmas.Bool.{ne_eqb}
use Rattle.records.specs.Records.{released, no_ipsec}
use Rattle.records.specs.declared.ipsec.IpsecRecord.{IpsecRecord}
use Rattle.walks.proofs.Choices.{unchanged}

pub stays : (owner : ℕ) (r : IpsecRecord) → r.owner ≢ owner → released owner r ≡ r
stays owner r h =
    sym (unchanged (nat_eq r.spi 0) (nat_eq r.owner owner) r no_ipsec (ne_eqb r.owner owner h))
