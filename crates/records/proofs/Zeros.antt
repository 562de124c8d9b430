-- What `Default` makes of a record: a free place.
use Rattle.std.proofs.Common.{◌≡◌, ℕ, List}
use Rattle.std.proofs.Math.ListN.{replicate}
use Rattle.std.specs.Array.{AllOfLen}
use Rattle.octets.specs.Limits.{address_octets, addresses_most, cookie_most}
use Rattle.walks.proofs.Alike.{Zero, alike, zeros}
use Rattle.address.specs.Address.{no_address, no_pair}
use Rattle.address.specs.declared.address.Address.{Address}
use Rattle.address.specs.declared.pair.Pair.{Pair}
use Rattle.records.specs.Pending.{no_check}
use Rattle.records.specs.Records.{none_agreed, no_ike, no_ipsec}
use Rattle.records.specs.declared.check.PendingCheck.{PendingCheck}
use Rattle.records.specs.declared.ike.Agreed.{Agreed}
use Rattle.records.specs.declared.ike.IkeRecord.{IkeRecord}
use Rattle.records.specs.declared.ipsec.IpsecRecord.{IpsecRecord}

abbrev NoAddress : Address → Type 0
NoAddress a = (a.family ≡ 0) × AllOfLen Zero a.octets address_octets

abbrev NoPair : Pair → Type 0
NoPair p =
    (p.family ≡ 0) × (AllOfLen Zero p.source address_octets × (AllOfLen Zero p.destination address_octets
    × ((p.source_port ≡ 0) × (p.destination_port ≡ 0))))

abbrev NoCheck : PendingCheck → Type 0
NoCheck c = (c.length ≡ 0) × (AllOfLen Zero c.octets cookie_most × (c.id ≡ 0))

abbrev NoneAgreed : Agreed → Type 0
NoneAgreed a = (a.mobike ≡ 0) × ((a.cloning ≡ 0) × ((a.operator ≡ 0) × (a.peer ≡ 0)))

address_zero : (a : Address) → NoAddress a → a ≡ no_address
address_zero a h = is a.family a.octets h.0 (zeros address_octets a.octets h.1)
  where
    is : (f : ℕ) (o : List ℕ) → f ≡ 0 → o ≡ replicate address_octets 0
        → let x : Address = record { family = f; octets = o } in x ≡ no_address
    is f o e g = rw (e, g)

pair_zero : (p : Pair) → NoPair p → p ≡ no_pair
pair_zero p h =
    is p.family p.source p.destination p.source_port p.destination_port h.0 (zeros address_octets p.source h.1.0)
    (zeros address_octets p.destination h.1.1.0) h.1.1.1.0 h.1.1.1.1
  where
    is : (f : ℕ) (s d : List ℕ) (m n : ℕ) → f ≡ 0 → s ≡ replicate address_octets 0 → d ≡ replicate address_octets 0 → m ≡ 0
        → n ≡ 0
        → let x : Pair = record { family = f; source = s; destination = d; source_port = m; destination_port = n } in
        x ≡ no_pair
    is f s d m n e g h i j = rw (e, g, h, i, j)

pub check_zero : (c : PendingCheck) → NoCheck c → c ≡ no_check
check_zero c h = is c.length c.octets c.id h.0 (zeros cookie_most c.octets h.1.0) h.1.1
  where
    is : (n : ℕ) (o : List ℕ) (i : ℕ) → n ≡ 0 → o ≡ replicate cookie_most 0 → i ≡ 0
        → let x : PendingCheck = record { length = n; octets = o; id = i } in x ≡ no_check
    is n o i e g h = rw (e, g, h)

pub ipsec_zero : (r : IpsecRecord) → ((r.spi ≡ 0) × ((r.owner ≡ 0) × NoPair r.pair)) → r ≡ no_ipsec
ipsec_zero r h = is r.spi r.owner r.pair h.0 h.1.0 (pair_zero r.pair h.1.1)
  where
    is : (s o : ℕ) (p : Pair) → s ≡ 0 → o ≡ 0 → p ≡ no_pair
        → let x : IpsecRecord = record { spi = s; owner = o; pair = p } in x ≡ no_ipsec
    is s o p e g h = rw (e, g, h)

agreed_zero : (a : Agreed) → NoneAgreed a → a ≡ none_agreed
agreed_zero a h = is a.mobike a.cloning a.operator a.peer h.0 h.1.0 h.1.1.0 h.1.1.1
  where
    is : (m c o p : ℕ) → m ≡ 0 → c ≡ 0 → o ≡ 0 → p ≡ 0
        → let x : Agreed = record { mobike = m; cloning = c; operator = o; peer = p } in x ≡ none_agreed
    is m c o p e g h i = rw (e, g, h, i)

pub ike_zero : (r : IkeRecord)
    → ((r.spi ≡ 0) × (NoneAgreed r.agreed × (NoPair r.pair × ((r.update_mark ≡ 0) × ((r.list_mark ≡ 0) × ((r.count ≡ 0)
    × (AllOfLen NoAddress r.addresses addresses_most × ((r.unknown ≡ 0) × (NoCheck r.check × (r.deleting ≡ 0))))))))))
    → r ≡ no_ike
ike_zero r h =
    let m = h.1.1.1 in
    is r.spi r.agreed r.pair r.update_mark r.list_mark r.count r.addresses r.unknown r.check r.deleting h.0
    (agreed_zero r.agreed h.1.0) (pair_zero r.pair h.1.1.0) m.0 m.1.0 m.1.1.0
    (alike NoAddress no_address address_zero addresses_most r.addresses m.1.1.1.0) m.1.1.1.1.0
    (check_zero r.check m.1.1.1.1.1.0) m.1.1.1.1.1.1
  where
    is : (s : ℕ) (a : Agreed) (p : Pair) (u l n : ℕ) (xs : List Address) (t : ℕ) (c : PendingCheck) (d : ℕ) → s ≡ 0
        → a ≡ none_agreed → p ≡ no_pair → u ≡ 0 → l ≡ 0 → n ≡ 0 → xs ≡ replicate addresses_most no_address → t ≡ 0
        → c ≡ no_check → d ≡ 0
        → let x : IkeRecord =
        record {
          spi = s;
          agreed = a;
          pair = p;
          update_mark = u;
          list_mark = l;
          count = n;
          addresses = xs;
          unknown = t;
          check = c;
          deleting = d;
        } in
        x ≡ no_ike
    is s a p u l n xs t c d e1 e2 e3 e4 e5 e6 e7 e8 e9 e10 = rw (e1, e2, e3, e4, e5, e6, e7, e8, e9, e10)
