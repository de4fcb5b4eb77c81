-- The selections, as texts.
use Rattle.std.specs.Prelude.{codes, List, ℕ}

abbrev pub releases_text : List ℕ
releases_text = codes "SELECT rowid, name, package, day, size, state FROM feed_release ORDER BY name"

abbrev pub pieces_text : List ℕ
pieces_text = codes "SELECT rowid, name, place, bytes FROM feed_piece ORDER BY name, place"

abbrev pub reasons_text : List ℕ
reasons_text = codes "SELECT rowid, name, reason, label FROM feed_reason ORDER BY name"
