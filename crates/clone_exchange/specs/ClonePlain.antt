-- Trusted. Plainly read clone requests: what 01 calls plainly read, of the two notifications that 02, E8, adds. They
-- are known in the clone's reading only, so a chain with one of them is plainly read there only.
--
--   clone_given    which of the two stand in a chain, as the writer takes it
--   also_given     what else the chain hands out, as the writer takes it
--   one_notify     a chain is one Notify with zero fields, and nothing behind it
--   clone_plain    a chain is plainly read in the clone's reading
use Rattle.std.specs.Prelude.{ℕ, List, Bool, true, false, ◌&&◌, eqb}
use Rattle.payload.specs.declared.payload.Content.TheVariants.{Skipped, Unknown as UnknownPayload, Notify}
use Rattle.reader.specs.Chain.{Chain, ends, faulty, payload, chain_at}
use Rattle.clone_chain.specs.CloneChain.{clone_reading}
use Rattle.asking.specs.Draft.{Draft}
use Rattle.asking.specs.declared.ask.CloneAsk.{CloneAsk}
use Rattle.clone_requests.specs.WrittenAny.{one_clone}
use Rattle.exchange.specs.Plain.{zero_fields}
use Rattle.exchange.specs.RoundTrips.{given_by}

abbrev pub clone_given : ℕ → List ℕ → CloneAsk
clone_given first body =
    record { supported = (clone_reading first body).supported; clone = (clone_reading first body).clone }

abbrev pub also_given : ℕ → List ℕ → Draft
also_given first body = given_by body (clone_reading first body).reading.seen

abbrev pub is_end : Chain → Bool
is_end ends = true
is_end (faulty f at) = false
is_end (payload at content rest) = false

-- E8: "each written only alone"; 01, of what is plainly read: "zero flags and protocol IDs".
abbrev pub one_notify : List ℕ → Chain → Bool
one_notify body ends = false
one_notify body (faulty f at) = false
one_notify body (payload at Skipped rest) = false
one_notify body (payload at UnknownPayload rest) = false
one_notify body (payload at (Notify kind notify_type size) rest) = zero_fields body at && is_end rest

unfoldable pub clone_plain : ℕ → List ℕ → Bool
clone_plain first body =
    eqb (clone_reading first body).reading.number 0
    && (one_notify body (chain_at body first 0)
    && one_clone (clone_given first body))
