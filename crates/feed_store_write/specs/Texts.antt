-- The statements, as texts.
use Rattle.std.specs.Prelude.{codes, List, ℕ, ◌++◌}

abbrev pub layout_text : List ℕ
layout_text = codes "CREATE TABLE feed_layout (version INTEGER PRIMARY KEY) STRICT"

abbrev pub release_text : List ℕ
release_text =
    codes "CREATE TABLE feed_release (\n  name TEXT NOT NULL PRIMARY KEY,\n  package TEXT NOT NULL,\n  day INTEGER NOT NULL,\n"
    ++ codes "  size INTEGER NOT NULL,\n  state INTEGER NOT NULL,\n  CHECK (size >= 0),\n  CHECK (state BETWEEN 0 AND 2)\n) STRICT"

abbrev pub piece_text : List ℕ
piece_text =
    codes "CREATE TABLE feed_piece (\n  name TEXT NOT NULL REFERENCES feed_release (name) ON DELETE CASCADE,\n"
    ++ codes "  place INTEGER NOT NULL,\n  bytes BLOB NOT NULL,\n  PRIMARY KEY (name, place),\n  CHECK (place >= 0)\n) STRICT"

abbrev pub reason_text : List ℕ
reason_text =
    codes "CREATE TABLE feed_reason (\n  name TEXT NOT NULL PRIMARY KEY REFERENCES feed_release (name) ON DELETE CASCADE,\n"
    ++ codes "  reason INTEGER NOT NULL,\n  label INTEGER NOT NULL,\n  CHECK (reason BETWEEN 1 AND 5),\n  CHECK (label BETWEEN 0 AND 13)\n) STRICT"

abbrev pub insert_version_text : List ℕ
insert_version_text = codes "INSERT INTO feed_layout (version) VALUES (2)"

abbrev pub set_version_text : List ℕ
set_version_text = codes "UPDATE feed_layout SET version = 2"

abbrev pub select_version_text : List ℕ
select_version_text = codes "SELECT version FROM feed_layout"

abbrev pub insert_release_text : List ℕ
insert_release_text = codes "INSERT INTO feed_release (name, package, day, size, state) VALUES (?1, ?2, ?3, ?4, ?5)"

abbrev pub insert_piece_text : List ℕ
insert_piece_text = codes "INSERT INTO feed_piece (name, place, bytes) VALUES (?1, ?2, ?3)"

abbrev pub insert_reason_text : List ℕ
insert_reason_text = codes "INSERT INTO feed_reason (name, reason, label) VALUES (?1, ?2, ?3)"

abbrev pub set_state_text : List ℕ
set_state_text = codes "UPDATE feed_release SET state = ?2 WHERE name = ?1"

abbrev pub delete_releases_text : List ℕ
delete_releases_text = codes "DELETE FROM feed_release WHERE package = ?1 AND day < ?2"
