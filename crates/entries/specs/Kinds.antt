-- Trusted. The kinds of entries of a trace and the fields of each (02, E3): "An entry is kind (0 open both, 1 add
-- IPsec, 2 close IKE, 3 close IPsec, 4 request, 5 policy) and its fields in document 01's order, lists led by their
-- count (at most 16), octet strings by their length (at most 4,096), addresses bare; later table calls and fields join
-- at the end as named": the response to a check is kind 6 (02, E6), a clone request 7 and the deletion mark 8 (02, E8),
-- and every kind ends with its operator (02, E9).
--   kind_number k   the number of a kind
--   fields_of k     its fields; a new field is a line at the end, a new kind a line in each
use Rattle.std.specs.Prelude.{ℕ, List, [], ◌∷◌, ◌++◌}
use Rattle.fields.specs.Fields.{Field, bits, address, string, list_of, ◌then◌, in_order}
use Rattle.entries.specs.declared.kind.Kind.{Kind}
use Rattle.entries.specs.declared.kind.Kind.TheVariants.{OpenBoth, AddIpsec, CloseIke, CloseIpsec, Request}
use Rattle.entries.specs.declared.kind.Kind.TheVariants.{Policy, CheckResponse, Clone, MarkDeletion}

abbrev pub kind_number : Kind → ℕ
kind_number OpenBoth = 0
kind_number AddIpsec = 1
kind_number CloseIke = 2
kind_number CloseIpsec = 3
kind_number Request = 4
kind_number Policy = 5
kind_number CheckResponse = 6
kind_number Clone = 7
kind_number MarkDeletion = 8

-- 01: "A pair is, in this order, family, source, destination, source port, destination port"; "Addresses travel as 16
-- octets each".
-- 02: "family and prefix length 8 bits, yes or no 1".
abbrev pub pair_fields : List Field
pair_fields =
    -- family
    bits 8
    -- source, destination
    ∷ address ∷ address
    -- source port, destination port
    ∷ bits 16 ∷ bits 16
    ∷ []

-- 01: "The policy is up to 16 rules: family, two prefixes, two prefix lengths"
abbrev pub rule_fields : List Field
rule_fields =
    -- family
    bits 8
    -- source prefix, destination prefix
    ∷ address ∷ address
    -- their lengths
    ∷ bits 8 ∷ bits 8
    ∷ []

-- E9: "Each IKE record and table call names operator A (0) or B (1), one bit"; "E3's example is now `02 07 00`"
abbrev pub operator : Field
operator = bits 1

abbrev pub fields_of : Kind → Field
-- 01: "32 IKE records: local SPI (64 bits, not 0), MOBIKE agreed or not, the address pair"; then the IPsec SPI
-- E8: "The IKE record gains, at opening, a 32-bit peer number and whether cloning is agreed"
fields_of OpenBoth = in_order (bits 64 ∷ bits 1 ∷ pair_fields ++ (bits 32 ∷ bits 32 ∷ bits 1 ∷ operator ∷ []))
-- 01: "IPsec records: SPI (32 bits, not 0), owning IKE SPI"
fields_of AddIpsec = in_order (bits 32 ∷ bits 64 ∷ operator ∷ [])
fields_of CloseIke = in_order (bits 64 ∷ operator ∷ [])
fields_of CloseIpsec = in_order (bits 32 ∷ operator ∷ [])
-- 01: "A request is given as SPI, ID, packet's pair, the two NAT values, first type, body."
-- E6: "a cookie of 8 to 64 octets and the ID of our request, both lent with every request"
fields_of Request =
    in_order (bits 64 ∷ bits 32 ∷ pair_fields ++ (string ∷ string ∷ bits 8 ∷ string ∷ string ∷ bits 32 ∷ operator ∷ []))
-- the rules, and what follows them. E9: "Policies and peer limits are per operator"
fields_of Policy = list_of (in_order rule_fields) then in_order (operator ∷ [])
-- E6: "a response (SPI, ID, first type, body)"
fields_of CheckResponse = in_order (bits 64 ∷ bits 32 ∷ bits 8 ∷ string ∷ operator ∷ [])
-- E8: "a CREATE_CHILD_SA request given as an IKE rekey (SPI, new SPI, first type, body)"
fields_of Clone = in_order (bits 64 ∷ bits 64 ∷ bits 8 ∷ string ∷ operator ∷ [])
-- E8: "a mark for being deleted, set by a call"
fields_of MarkDeletion = in_order (bits 64 ∷ operator ∷ [])
