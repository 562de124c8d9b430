-- Trusted. The lines that a replay prints (02, E3), in the form that docs/ sets.
--
--   line_of ws          a line of words: single spaces between them, and the line's end behind the last
--   entry_line          `0 4 none none`: ordinal, answer number, what became of the update and of the list
--   refusal_line        `20 at 43`: the refusal's number and its entry's offset
--   pair_line           `ike 7 4 c000..00 c633..00 4500 4500`: table, SPI, family, source, destination, their ports
--   line_room           what every line has room in (`short` in proofs/Short.antt)
use Rattle.std.specs.Prelude.{ℕ, Bool, List, [], ◌∷◌}
use Rattle.address.specs.declared.pair.Pair.{Pair}
use Rattle.wording.specs.Text.{ascii, decimal, hex, joined}
use Rattle.wording.specs.Chosen.{table_word, outcome_word}

-- "\n"
abbrev pub line_end : ℕ
line_end = 10

abbrev pub line_of : List (List ℕ) → List ℕ
line_of ws = joined ws line_end

-- "prints, per entry, its ordinal, the answer number, the update and list outcomes"
abbrev pub entry_line : ℕ → ℕ → ℕ → ℕ → List ℕ
entry_line ordinal number update list =
    line_of (decimal ordinal ∷ decimal number ∷ outcome_word (ascii "applied") update
    ∷ outcome_word (ascii "replaced") list ∷ [])

-- "the first as read is the last line, in the pairs' place, with its entry's offset"
abbrev pub refusal_line : ℕ → ℕ → List ℕ
refusal_line number offset = line_of (decimal number ∷ ascii "at" ∷ decimal offset ∷ [])

abbrev pub pair_words : Pair → List (List ℕ)
pair_words pair =
    decimal pair.family ∷ hex pair.source ∷ hex pair.destination ∷ decimal pair.source_port ∷ decimal
    pair.destination_port ∷ []

-- "at the end each record's pair"
abbrev pub pair_line : Bool → ℕ → Pair → List ℕ
pair_line ipsec spi pair = line_of (table_word ipsec ∷ decimal spi ∷ pair_words pair)

abbrev pub line_room : ℕ
line_room = 128
