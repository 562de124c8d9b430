-- The round trips of every field, as `specs/RoundTrips.antt` states them. Assumes nothing.
use mathlib.Core.Path.{sym, ◌∙◌}
use Rattle.field_laws.specs.RoundTrips.{EachField}
use Rattle.field_laws.proofs.Parts.{not_read}
use Rattle.fields.proofs.Prefix.{told_fits}
use Rattle.field_laws.proofs.Told.{told}
use Rattle.field_laws.proofs.Written.{reads}

pub each_field : EachField
each_field f narrow =
    record {
      reads_written = λ v s at rest h e. reads f v s at rest narrow h e;
      writes_read = λ s at v slots next o e. told s o f at v slots next e;
      none_read = λ s at why slots e v rest h d. not_read (sym e ∙ (reads f v s at rest narrow h d).reads);
      told_fits = told_fits f;
    }
