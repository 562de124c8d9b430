-- Trusted. Paths as a host lends them: a column for each thing that is kept, with eight places, since an enum and a
-- list of structs that hold one are not lent. The calls on columns, and the paths that columns stand for.
--
--   Columns          the count and five columns
--   event_of          what was last heard, of its number and its milliseconds; kind_of, milliseconds_of: these two, of it
--   path_of           the path of five numbers; path_at: at an ordinal; paths_of: all of them
--   hear_at           columns with another last event at an ordinal; store_at: with another path, a sampled one
--   started_columns   a start; sampled_columns, lost_columns: a round trip or a loss on one path
use Rattle.std.specs.Prelude.{ℕ, List, cond, eqb, get_or, set, replicate, Float}
use Rattle.std.specs.Float.{nan}
use Rattle.octets.specs.Flags.{is_yes}
use Rattle.paths.specs.Limits.{paths_most}
use Rattle.paths.specs.Update.{zero64, sampled_path, lost_path}
use Rattle.paths.specs.Calls.{Paths, Answer, unless_refused, start_checks, event_checks}
use Rattle.paths.specs.declared.path.LastEvent.{LastEvent}
use Rattle.paths.specs.declared.path.LastEvent.TheVariants.{Nothing, RoundTrip, Loss}
use Rattle.paths.specs.declared.path.Path.{Path}

pub record Columns : Type 0 where
  pub count : ℕ
  pub event : List ℕ
  pub sampled : List ℕ
  pub milliseconds : List Float
  pub smoothed : List Float
  pub spread : List Float

abbrev pub columns : ℕ → List ℕ → List ℕ → List Float → List Float → List Float → Columns
columns count event sampled milliseconds smoothed spread =
    record {
      count = count;
      event = event;
      sampled = sampled;
      milliseconds = milliseconds;
      smoothed = smoothed;
      spread = spread;
    }

-- "nothing, a round trip in milliseconds, or a loss with the milliseconds waited"
abbrev pub event_of : ℕ → Float → LastEvent
event_of kind milliseconds = cond (eqb kind 1) (RoundTrip milliseconds) (cond (eqb kind 2) (Loss milliseconds) Nothing)

abbrev pub kind_of : LastEvent → ℕ
kind_of Nothing = 0
kind_of (RoundTrip x) = 1
kind_of (Loss x) = 2

abbrev pub milliseconds_of : LastEvent → Float
milliseconds_of Nothing = zero64
milliseconds_of (RoundTrip x) = x
milliseconds_of (Loss x) = x

abbrev pub path_of : ℕ → ℕ → Float → Float → Float → Path
path_of kind sampled milliseconds smoothed spread =
    record { smoothed = smoothed; spread = spread; sampled = is_yes sampled; last = event_of kind milliseconds }

abbrev pub path_at : Columns → ℕ → Path
path_at c k =
    path_of (get_or c.event k 0) (get_or c.sampled k 0) (get_or c.milliseconds k nan) (get_or c.smoothed k nan)
    (get_or c.spread k nan)

abbrev pub paths_of : Columns → Paths
paths_of c = record { count = c.count; path = path_at c }

-- another last event at an ordinal
abbrev pub hear_at : Columns → ℕ → LastEvent → Columns
hear_at c k e =
    columns c.count (set c.event k (kind_of e)) c.sampled (set c.milliseconds k (milliseconds_of e))
    c.smoothed c.spread

-- a path on which a round trip was taken
abbrev pub store_at : Columns → ℕ → Path → Columns
store_at c k p =
    let heard = hear_at c k p.last in
    columns c.count heard.event (set c.sampled k 1) heard.milliseconds (set c.smoothed k p.smoothed)
    (set c.spread k p.spread)

abbrev pub none_heard : ℕ → Columns
none_heard count =
    let zeros : List ℕ = replicate paths_most 0 in
    let zeros64 : List Float = replicate paths_most zero64 in
    columns count zeros zeros zeros64 zeros64 zeros64

unfoldable pub started_columns : ℕ → Columns → Answer Columns
started_columns count c = unless_refused (start_checks count) (none_heard count) c

unfoldable pub sampled_columns : Columns → ℕ → ℕ → Answer Columns
sampled_columns c ordinal r =
    unless_refused (event_checks c.count ordinal r) (store_at c ordinal (sampled_path (path_at c ordinal) r)) c

-- neither `sampled` nor the two numbers change
unfoldable pub lost_columns : Columns → ℕ → ℕ → Answer Columns
lost_columns c ordinal waited =
    unless_refused (event_checks c.count ordinal waited) (hear_at c ordinal (lost_path (path_at c ordinal) waited).last) c
