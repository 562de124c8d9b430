-- Trusted. Well-formed tables: no SPI twice, nothing left in a free place, every IPsec record with an owner, and each
-- record in use in its bounds.
--   Distinct, Cleared, EachInUse      what holds of a table's places
--   Consistent                        all of it, of a table of so many places
--   message_ids                        how many message IDs there are
--   peer_numbers                       how many peer numbers there are
--   is_family                          4 or 6
--   CheckBounds                       the bounds of a pending check
--   AgreedBounds                      the bounds of what was agreed at an opening
--   IkeBounds, IpsecBounds            the bounds of a record in use
--   Owned                             every IPsec record has an owner
--   WellFormed                        both tables
use Rattle.std.specs.Prelude.{ℕ, ◌<◌, ◌≤◌, ◌≡◌, ◌⊎◌, List, Bool, true, not, eqb, length, get_or}
use Rattle.octets.specs.Limits.{ike_places, ipsec_places, addresses_most, cookie_most, tally_most}
use Rattle.octets.specs.Lists.{place_of}
use Rattle.octets.specs.Operators.{is_operator}
use Rattle.address.specs.Address.{width_of, no_address, pair_fits}
use Rattle.records.specs.Pending.{cookie_sized}
use Rattle.records.specs.Records.{ike_spi, ipsec_spi, no_ike, no_ipsec}
use Rattle.tables.specs.Tables.{Tables}
use Rattle.records.specs.declared.check.PendingCheck.{PendingCheck}
use Rattle.records.specs.declared.ike.Agreed.{Agreed}
use Rattle.records.specs.declared.ike.IkeRecord.{IkeRecord}
use Rattle.records.specs.declared.ipsec.IpsecRecord.{IpsecRecord}

module _ {A : Type 0} (key : A → ℕ) (d : A) where
  -- no key but 0 stands in two places
  abbrev pub Distinct : List A → Type 0
  Distinct xs =
      (i j : ℕ) → i < length xs → j < length xs → key (get_or xs i d) ≡ key (get_or xs j d)
      → (key (get_or xs i d) ≡ 0 → ⊥) → i ≡ j

  -- nothing is left in a place with key 0
  abbrev pub Cleared : List A → Type 0
  Cleared xs = (i : ℕ) → i < length xs → key (get_or xs i d) ≡ 0 → get_or xs i d ≡ d

  -- P holds of every element in use
  abbrev pub EachInUse : (A → Type 0) → List A → Type 0
  EachInUse P xs = (i : ℕ) → i < length xs → (key (get_or xs i d) ≡ 0 → ⊥) → P (get_or xs i d)

  pub record Consistent (P : A → Type 0) (size : ℕ) (xs : List A) : Type 0 where
    pub long : length xs ≡ size
    pub once : Distinct xs
    pub clear : Cleared xs
    pub bounded : EachInUse P xs

-- 4 or 6, which alone have a width
abbrev pub is_family : ℕ → Bool
is_family family = not (eqb (width_of family) 0)

-- "a message ID of 32 bits"
abbrev pub message_ids : ℕ
message_ids = 4294967296

-- 02, E8: "a 32-bit peer number"
abbrev pub peer_numbers : ℕ
peer_numbers = 4294967296

-- 02, E6: "a cookie of 8 to 64 octets and the ID of our request", or none. 01: "Places past a list's count ...; in a
-- list newly kept or given they are 0", so with the octets past the cookie's; of no check the ID is 0 too.
pub record CheckBounds (c : PendingCheck) : Type 0 where
  pub sized : (c.length ≡ 0) ⊎ (cookie_sized c.length ≡ true)
  pub octets : length c.octets ≡ cookie_most
  pub cleared : (i : ℕ) → c.length ≤ i → get_or c.octets i 0 ≡ 0
  pub no_id : c.length ≡ 0 → c.id ≡ 0
  pub id : c.id < message_ids

-- What is agreed at an opening, and kept by a clone: a yes is stored as 1. 02, E9: "Each IKE record ... names operator
-- A (0) or B (1)".
pub record AgreedBounds (a : Agreed) : Type 0 where
  pub mobike : a.mobike ≤ 1
  pub cloning : a.cloning ≤ 1
  pub operator : is_operator a.operator ≡ true
  pub peer : a.peer < peer_numbers

-- What 01 says of an IKE record in use: its pair passed check 1, so its family is 4 or 6; "an update mark and a list
-- mark (each none or a message ID of 32 bits ...)", kept as 0 or the ID and one; "up to 16 additional addresses", each
-- of family 4 or 6; "an unknown tally that stays at 4,294,967,295 once there". 02, E8: "a mark for being deleted", of
-- which a yes is stored as 1.
pub record IkeBounds (r : IkeRecord) : Type 0 where
  pub agreed : AgreedBounds r.agreed
  pub pair : pair_fits r.pair ≡ true
  pub update_mark : r.update_mark ≤ message_ids
  pub list_mark : r.list_mark ≤ message_ids
  pub count : r.count ≤ addresses_most
  pub families : (i : ℕ) → i < r.count → is_family (get_or r.addresses i no_address).family ≡ true
  pub tally : r.unknown ≤ tally_most
  pub check : CheckBounds r.check
  pub deleting : r.deleting ≤ 1

pub record IpsecBounds (r : IpsecRecord) : Type 0 where
  pub pair : pair_fits r.pair ≡ true

-- every IPsec record in use has an owner among the IKE records
abbrev pub Owned : List IkeRecord → List IpsecRecord → Type 0
Owned ike ipsec =
    (j : ℕ) → j < length ipsec → ((get_or ipsec j no_ipsec).spi ≡ 0 → ⊥)
    → ((get_or ipsec j no_ipsec).owner ≡ 0 → ⊥) × (place_of ike_spi (get_or ipsec j no_ipsec).owner ike < length ike)

pub record WellFormed (t : Tables) : Type 0 where
  pub ikes : Consistent ike_spi no_ike IkeBounds ike_places t.ike
  pub ipsecs : Consistent ipsec_spi no_ipsec IpsecBounds ipsec_places t.ipsec
  pub owned : Owned t.ike t.ipsec
