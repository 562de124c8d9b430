-- What notifications ask for, one after the other: the request that is gathered so far, with no offsets in it.
use Prim.Native.Nat.{ℕ, ◌+◌}
use mathlib.Core.Path.{◌≡◌, refl}
use mathlib.Core.List.{List, [], ◌∷◌, ◌++◌}
use mathlib.Core.Bool.{Bool, true, false, cond, ◌||◌, not}
use lib.Dec.{eqb}
use lib.ListN.{length, set}
use Rattle.octets.specs.Octets.{padded}
use Rattle.notify.specs.Notify.{kind_of, data_fits}
use Rattle.notify.specs.declared.notify.NotifyKind.{NotifyKind}
use Rattle.notify.specs.declared.notify.NotifyKind.TheVariants.{NatDetectionSource, NatDetectionDestination}
use Rattle.notify.specs.declared.notify.NotifyKind.TheVariants.{MobikeSupported, AdditionalIp4, AdditionalIp6}
use Rattle.notify.specs.declared.notify.NotifyKind.TheVariants.{NoAdditionalAddresses, UpdateSaAddresses, Cookie2}
use Rattle.notify.specs.declared.notify.NotifyKind.TheVariants.{NoNatsAllowed, UnacceptableAddresses}
use Rattle.notify.specs.declared.notify.NotifyKind.TheVariants.{UnexpectedNatDetected, OtherError, OtherStatus}
use Rattle.findings.specs.Seen.{is}
use Rattle.values.specs.Values.{no_nats_of}
use Rattle.writing.specs.Notify.{Notification}
use Rattle.asking.specs.Draft.{Draft}
use Rattle.exchange.specs.RoundTrips.{pair_of}
use Rattle.exchange.proofs.Notifies.{AllFit}

abbrev of_address : {A : Type 0} → NotifyKind → A → A → A → A
of_address k four six other = cond (is k AdditionalIp4) four (cond (is k AdditionalIp6) six other)

-- the request with what a notification of kind k with these octets asks for
abbrev pub gathered : Draft → NotifyKind → List ℕ → Draft
gathered r k octets =
    let n = r.ask.count in
    record {
      ask =
          record {
            update = cond (is k UpdateSaAddresses) true r.ask.update;
            no_nats = cond (is k NoNatsAllowed) true r.ask.no_nats;
            nat_source = cond (is k NatDetectionSource) true r.ask.nat_source;
            nat_destination = cond (is k NatDetectionDestination) true r.ask.nat_destination;
            no_additional = cond (is k NoAdditionalAddresses) true r.ask.no_additional;
            count = of_address k (n + 1) (n + 1) n;
          };
      pair = cond (is k NoNatsAllowed) (pair_of (no_nats_of octets)) r.pair;
      families = of_address k (set r.families n 4) (set r.families n 6) r.families;
      addresses = of_address k (set r.addresses n (padded octets)) (set r.addresses n (padded octets))
          r.addresses;
      nat-source = cond (is k NatDetectionSource) octets r.nat-source;
      nat-destination = cond (is k NatDetectionDestination) octets r.nat-destination;
      cookie = cond (is k Cookie2) octets r.cookie;
    }

-- a kind that is unknown, or may not come once more
abbrev pub taken : Draft → NotifyKind → Bool
taken r NatDetectionSource = r.ask.nat_source
taken r NatDetectionDestination = r.ask.nat_destination
taken r MobikeSupported = false
taken r AdditionalIp4 = r.ask.no_additional
taken r AdditionalIp6 = r.ask.no_additional
taken r NoAdditionalAddresses = r.ask.no_additional || not (eqb r.ask.count 0)
taken r UpdateSaAddresses = r.ask.update
taken r Cookie2 = not (eqb (length r.cookie) 0)
taken r NoNatsAllowed = r.ask.no_nats
taken r UnacceptableAddresses = true
taken r UnexpectedNatDetected = true
taken r OtherError = true
taken r OtherStatus = true

abbrev pub gather_all : Draft → List Notification → Draft
gather_all r [] = r
gather_all r (x ∷ xs) = gather_all (gathered r (kind_of x.notify_type) x.octets) xs

abbrev pub Clear : Draft → List Notification → Type 0
Clear r [] = Unit {0}
Clear r (x ∷ xs) =
    (taken r (kind_of x.notify_type) ≡ false) × Clear (gathered r (kind_of x.notify_type) x.octets) xs

-- The notifications fit, may follow what makes r, and make `end` of it.
pub record Leads (r : Draft) (xs : List Notification) (end : Draft) : Type 0 where
  pub fits : AllFit xs
  pub clear : Clear r xs
  pub gives : gather_all r xs ≡ end

pub none : {r : Draft} → Leads r [] r
none = record { fits = tt; clear = tt; gives = refl }

pub one : {r end : Draft} {x : Notification} → data_fits (kind_of x.notify_type) (length x.octets) ≡ true
    → taken r (kind_of x.notify_type) ≡ false → gathered r (kind_of x.notify_type) x.octets ≡ end
    → Leads r (x ∷ []) end
one f c g = record { fits = (f, tt); clear = (c, tt); gives = g }

-- one part behind the other
pub in_turn : {r mid end : Draft} {ys : List Notification} (xs : List Notification) → Leads r xs mid
    → Leads mid ys end
    → Leads r (xs ++ ys) end
in_turn {r = r} [] a b = record { fits = b.fits; clear = rw a.gives b.clear; gives = rw a.gives b.gives }
in_turn {r = r} (x ∷ xs) a b =
    let rest = in_turn {r = gathered r (kind_of x.notify_type) x.octets} xs (record { fits = a.fits.1; clear = a.clear.1; gives = a.gives }) b in
    record { fits = (a.fits.0, rest.fits); clear = (a.clear.0, rest.clear); gives = rest.gives }
