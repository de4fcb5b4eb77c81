-- Records in another order.
use Rattle.std.specs.Prelude.{◌≡◌, ◌++◌, List, Option, [], ◌∷◌, map, IsPermutation}
use Rattle.feed_kbart.specs.declared.fault.BadFile.{BadFile}
use Rattle.feed_model.specs.declared.state.State.{State}
use Rattle.std.specs.Option.{option_or}
use Rattle.feed_model.specs.Content.{Part, Record, Content}
use Rattle.feed_model.specs.Change.{merged}

-- the record with its parts sorted; parts that begin at the same place keep their order
abbrev pub ordered_record : Record → Record
ordered_record r = record { name = r.name; size = r.size; state = r.state; reason = r.reason; parts = merged [] r.parts }

-- the same records, each with its parts in order
abbrev pub ordered : Content → Content
ordered rs = map ordered_record rs

-- the record with these parts behind its own, this state, and this reason, or its own reason if none is given
abbrev pub lengthened : List Part → State → Option BadFile → Record → Record
lengthened ps state reason r = record { name = r.name; size = r.size; state = state; reason = option_or reason r.reason; parts = r.parts ++ ps }

-- the same record, with its parts in another order
pub record IsSame (r s : Record) : Type 0 where
  pub name : s.name ≡ r.name
  pub size : s.size ≡ r.size
  pub state : s.state ≡ r.state
  pub reason : s.reason ≡ r.reason
  pub parts : IsPermutation r.parts s.parts

-- each record is the same as the one at the same place, except for the order of its parts
abbrev pub AreSame : Content → Content → Type 0
AreSame [] [] = Unit {0}
AreSame (r ∷ rs) (s ∷ ss) = IsSame r s × AreSame rs ss
AreSame [] (s ∷ ss) = ⊥
AreSame (r ∷ rs) [] = ⊥

-- the same records, and the same parts of each, in another order
abbrev pub IsArranged : Content → Content → Type 0
IsArranged given kept = (moved : Content) × IsPermutation given moved × AreSame moved kept
