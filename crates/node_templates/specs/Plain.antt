-- Templates without the addresses of their texts: of a parameter, and of a constant.
use Rattle.std.specs.Prelude.{ℕ, List, map}
use Rattle.std.specs.Borrow.{Bor}
use Rattle.node_templates.specs.declared.template.Hole.{Hole}
use Rattle.node_templates.specs.declared.template.When.{When}

abbrev pub plain_fragment : Bor (List ℕ) × Hole → List ℕ × Hole
plain_fragment fragment = (fragment.0.now, fragment.1)

abbrev pub plain_fragments : List (Bor (List ℕ) × Hole) → List (List ℕ × Hole)
plain_fragments fragments = map plain_fragment fragments

abbrev pub plain_line : When × Bor (List (Bor (List ℕ) × Hole)) → When × List (List ℕ × Hole)
plain_line line = (line.0, plain_fragments line.1.now)

abbrev pub plain_template : List (When × Bor (List (Bor (List ℕ) × Hole))) → List (When × List (List ℕ × Hole))
plain_template lines = map plain_line lines

-- the same of constants
abbrev pub fragment_of : record { now : List ℕ } × Hole → List ℕ × Hole
fragment_of fragment = (fragment.0.now, fragment.1)

abbrev pub line_of : When × record { now : List (record { now : List ℕ } × Hole) } → When × List (List ℕ × Hole)
line_of line = (line.0, map fragment_of line.1.now)

abbrev pub template_of : List (When × record { now : List (record { now : List ℕ } × Hole) }) → List (When × List (List ℕ × Hole))
template_of lines = map line_of lines
