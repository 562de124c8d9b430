-- Trusted. The two records of an opening.
--
--   ike_of, child_of   the IKE record, and its first IPsec record
use Rattle.records.specs.Records.{new_ike, new_ipsec}
use Rattle.records.specs.declared.ike.IkeRecord.{IkeRecord}
use Rattle.records.specs.declared.ipsec.IpsecRecord.{IpsecRecord}
use Rattle.tables.specs.declared.calls.Opening.{Opening}

-- E1: "IKE_AUTH makes an IKE record and its first IPsec record": what is opened with what is given.
abbrev pub ike_of : Opening → IkeRecord
ike_of o = new_ike o.spi o.agreed o.pair

-- 01: "A new one takes the pair of its IKE record (000, 3.3)."
abbrev pub child_of : Opening → IpsecRecord
child_of o = new_ipsec o.child o.spi o.pair
