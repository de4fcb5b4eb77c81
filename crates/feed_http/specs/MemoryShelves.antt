-- The files of a shelf in memory.
use Rattle.std.specs.Prelude.{ℕ, List, Option, find}
use Rattle.std.specs.Option.{option_map}
use Rattle.feed_names.specs.ReleaseName.{Name, name_eq}
use Rattle.feed_http.specs.declared.serving.memory_shelf.NamedFile.{NamedFile}

-- the bytes of the first file of that name
abbrev pub file_named : List NamedFile → Name → Option (List ℕ)
file_named files name = option_map (λ file. file.bytes.items) (find (λ file. name_eq file.name name) files)
