-- Prints of lines, and prints that fail.
use Rattle.std.specs.Prelude.{◌≡◌, Bool, false, ℕ, List, Option}
use Rattle.std.specs.Io.KnownBytes.{Appends}
use Rattle.feed_fetch.specs.Lines.{line_of}
use Rattle.feed_fetch.specs.declared.printer.Printer.{Printer}

-- whether a print has failed
abbrev pub has_failed : {W : Type 0} → Printer W → Bool
has_failed printer = printer.has_failed

-- a text was appended to the bytes of the writer, if these are known
abbrev pub HasAppended : {W : Type 0} → (W → Option (List ℕ)) → Printer W → Printer W → List ℕ → Type 0
HasAppended contents old new text = Appends (contents old.writer) (contents new.writer) text

-- the same for a line with this text
abbrev pub HasPrinted : {W : Type 0} → (W → Option (List ℕ)) → Printer W → Printer W → List ℕ → Type 0
HasPrinted contents old new text = HasAppended contents old new (line_of text)

-- this holds, unless a print has failed
abbrev pub IfPrinted : {W : Type 0} → Printer W → Type 0 → Type 0
IfPrinted printer holds = has_failed printer ≡ false → holds

-- the line that was printed last has this text
abbrev pub IsLastLine : {W : Type 0} → (W → Option (List ℕ)) → Printer W → List ℕ → Type 0
IsLastLine {W} contents printer text = (before : Printer W) × HasPrinted contents before printer text
