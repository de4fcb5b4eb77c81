-- The model value of a row, and that of its texts.
use Rattle.std.specs.Prelude.{ℕ, List, Option, ℤ}
use Rattle.feed_kbart.specs.Coverage.{CoverageValue}
use Rattle.feed_kbart.specs.declared.identifiers.Identifiers.{Identifiers}

-- the texts of a row, unchanged from the file
pub record TextsValue : Type 0 where
  pub title : List ℕ
  pub url : List ℕ
  pub title_id : List ℕ
  pub depth : List ℕ
  pub embargo : List ℕ
  pub access : List ℕ

-- a row: its number, its texts and the printed bytes of its identifiers
pub record RowValue : Type 0 where
  pub number : ℕ
  pub title : List ℕ
  pub identifiers : Identifiers
  pub first_day : Option ℤ
  pub last_day : Option ℤ
  pub first_volume : Option ℕ
  pub last_volume : Option ℕ
  pub url : List ℕ
  pub title_id : List ℕ
  pub depth : List ℕ
  pub embargo : List ℕ
  pub access : List ℕ

-- a row without its number: the values of its columns
abbrev pub content : RowValue → RowValue
content row = record row { number = 0 }

-- the row with these parts
abbrev pub row_with : ℕ → CoverageValue → TextsValue → RowValue
row_with number coverage texts = record {
  number = number;
  title = texts.title;
  identifiers = coverage.identifiers;
  first_day = coverage.first_day;
  last_day = coverage.last_day;
  first_volume = coverage.first_volume;
  last_volume = coverage.last_volume;
  url = texts.url;
  title_id = texts.title_id;
  depth = texts.depth;
  embargo = texts.embargo;
  access = texts.access;
}
