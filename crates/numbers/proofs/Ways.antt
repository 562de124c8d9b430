-- What a request can come to: refused by a check 1 to 5, by its chain, or decided on the record that it means.
use Prim.Native.Nat.{ℕ, ◌+◌, ◌≤◌}
use mathlib.Core.Path.{◌≡◌, refl, ap, ◌∙◌}
use mathlib.Core.Logic.{◌⊎◌, inl, inr}
use mathlib.Core.List.{List, []}
use mathlib.Core.Bool.{Bool, true, false}
use native.Mathlib.Omega.{arith}
use native.Mathlib.Decide.{ℕ_discrete}
use borrow.Author.Tests.{eq-eqb, ne_eqb}
use lib.ListN.{length, set}
use lib.Seq.{set-get_or}
use Rattle.octets.specs.Limits.{tally_most}
use Rattle.octets.specs.Lists.{place_of}
use Rattle.octets.proofs.Small.{chosen}
use Rattle.writing.specs.Notify.{Notification, first_type, chained}
use Rattle.policy.specs.declared.rules.Policy.{Policy}
use Rattle.reader.specs.Chain.{reading}
use Rattle.records.specs.Records.{ike_spi, no_ike, marks_in}
use Rattle.tables.specs.Tables.{Tables, tables, meant}
use Rattle.records.specs.declared.ike.IkeRecord.{IkeRecord}
use Rattle.records.specs.declared.ike.Marks.{Marks}
use Rattle.answering.specs.Core.{decided_response, chain_error, decision_on}
use Rattle.checking.specs.Checks.{Request}
use Rattle.responder.specs.Handle.{accepts, early_number, handled, handled_response, seen_in, after_request}
use Rattle.verdict.specs.Verdict.{verdict_number}
use Rattle.verdict.specs.declared.update.Verdict.{Verdict}
use Rattle.numbers.specs.Numbers.{applies, replaces}
use Rattle.numbers.proofs.Decisions.{marks_by, Comes, Decides, done, refused, decides}
use Rattle.numbers.proofs.Cores.{chain_number, entry_by, CoreComes, core_refused, core_decided}

-- the number of the first five checks; the place and the record meant
abbrev pub early : Tables → Request → ℕ
early t q = early_number t.ike t.ipsec q

abbrev pub place : Tables → Request → ℕ
place t q = place_of ike_spi q.spi t.ike

abbrev pub entry : Tables → Request → IkeRecord
entry t q = meant t.ike q.spi

-- the tables with the record meant so
abbrev pub changed_to : Tables → Request → IkeRecord → Tables
changed_to t q e = tables (set t.ike (place t q) e) t.ipsec

module _ (policies : List Policy) (t : Tables) (q : Request) where
  -- number, response with what is told of it, and tables
  pub record ComesTo (n : ℕ) (response : List Notification) (s : Tables) : Type 0 where
    pub number : (handled policies t.ike t.ipsec q).reply.number ≡ n
    pub octets : handled_response policies t.ike t.ipsec q ≡ chained response 0
    pub first : (handled policies t.ike t.ipsec q).reply.first ≡ first_type response 0
    pub long : (handled policies t.ike t.ipsec q).reply.length ≡ length (chained response 0)
    pub after : after_request policies q t ≡ s

  pub refused_early : (early t q ≡ 0 → ⊥) → ComesTo (early t q) [] t
  unfolding after_request handled handled_response chained
  refused_early n =
      let f = ne_eqb (early t q) 0 n in
      record { number = rw f; octets = rw f; first = rw f; long = rw f; after = rw f }

  module _ (passes : early t q ≡ 0) where
    by_core : {n : ℕ} {response : List Notification} {e : IkeRecord}
        → CoreComes (accepts policies q) q (entry t q) n response e → ComesTo n response (changed_to t q e)
    unfolding after_request handled handled_response
    by_core c =
        let f = eq-eqb (early t q) 0 passes in
        record {
          number = rw f c.number;
          octets = rw f c.octets;
          first = rw f c.first;
          long = rw f c.long;
          after = rw (f, c.entry);
        }

    pub refused_chain : (chain_number q ≡ 0 → ⊥)
        → ComesTo (chain_number q) (chain_error (reading q.asks.first q.asks.body)) t
    refused_chain n =
        let c = by_core (core_refused (accepts policies q) q (entry t q) n) in
        let same = ap (λ (ike : List IkeRecord). tables ike t.ipsec) (set-get_or t.ike (place t q) no_ike) in
        record { number = c.number; octets = c.octets; first = c.first; long = c.long; after = c.after ∙ same }

    pub decided_here : chain_number q ≡ 0 → {v : Verdict} {u l : Bool} {m : Marks}
        → Comes v u l m (decision_on (accepts policies q) q.asks (marks_in (entry t q)))
        → ComesTo (verdict_number v) (decided_response v q.asks (seen_in q))
        (changed_to t q (entry_by q (entry t q) u l m))
    decided_here w c = by_core (core_decided (accepts policies q) q (entry t q) w c)

  -- A change of the record meant: it moves only with an update that counts, and its marks stay or become the ID.
  pub record Changes (u l : Bool) (m : Marks) : Type 0 where
    pub passes : early t q ≡ 0
    pub is : after_request policies q t ≡ changed_to t q (entry_by q (entry t q) u l m)
    pub moves : u ≡ true → applies q (entry t q) ≡ true
    pub update_mark : (m.update_mark ≡ (entry t q).update_mark) ⊎
        ((applies q (entry t q) ≡ true) × (m.update_mark ≡ q.asks.id + 1))
    pub list_mark : (m.list_mark ≡ (entry t q).list_mark) ⊎ (m.list_mark ≡ q.asks.id + 1)
    pub tally : m.unknown ≤ tally_most

  -- What a request does to the tables.
  pub data Way : Type 0 where
    stays : after_request policies q t ≡ t → Way
    changes : (u l : Bool) (m : Marks) → Changes u l m → Way

  module _ (passes : early t q ≡ 0) (w : chain_number q ≡ 0) where
    by_marks : {v : Verdict} {u l : Bool} (a b : Bool) → (u ≡ true → applies q (entry t q) ≡ true)
        → (a ≡ true → applies q (entry t q) ≡ true)
        → Comes v u l (marks_by q a b (marks_in (entry t q)))
        (decision_on (accepts policies q) q.asks (marks_in (entry t q))) → Way
    by_marks {v} {u} {l} a b moves raises c =
        changes u l (marks_by q a b (marks_in (entry t q)))
        (record {
          passes = passes;
          is = (decided_here passes w c).after;
          moves = moves;
          update_mark =
              chosen (λ (x : ℕ). (x ≡ (entry t q).update_mark) ⊎
              ((applies q (entry t q) ≡ true) × (x ≡ q.asks.id + 1))) a
              (λ f. inr (raises f, refl)) (λ f. inl refl);
          list_mark =
              chosen (λ (x : ℕ). (x ≡ (entry t q).list_mark) ⊎ (x ≡ q.asks.id + 1)) b (λ f. inr refl)
              (λ f. inl refl);
          tally = omega arith;
        })

    whole_way : Decides (accepts policies q) q (marks_in (entry t q))
        (decision_on (accepts policies q) q.asks (marks_in (entry t q))) → Way
    whole_way (done c) = by_marks (applies q (entry t q)) (replaces q (entry t q)) (λ f. f) (λ f. f) c
    whole_way (refused v which r) = by_marks true false (λ f. r.counts) (λ f. r.counts) r.comes

  pub way : Way
  way = go (ℕ_discrete (early t q) 0) (ℕ_discrete (chain_number q) 0)
    where
      go : Dec (early t q ≡ 0) → Dec (chain_number q ≡ 0) → Way
      go (no n) d = stays (refused_early n).after
      go (yes e) (no n) = stays (refused_chain e n).after
      go (yes e) (yes w) = whole_way e w (decides (accepts policies q) q (marks_in (entry t q)))
