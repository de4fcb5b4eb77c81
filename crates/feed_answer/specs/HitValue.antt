-- The model value of a row that matches.
use Rattle.feed_kbart.specs.RowValue.{RowValue}
use Rattle.feed_answer.specs.declared.grade.Grade.{Grade}
use Rattle.feed_answer.specs.declared.hits.Hit.{Hit}

-- a row and its grade
pub record HitValue : Type 0 where
  pub row : RowValue
  pub grade : Grade

-- the value of a hit, without the row's address in memory
abbrev pub hit_of : Hit → HitValue
hit_of hit = record { row = hit.row.now; grade = hit.grade }
