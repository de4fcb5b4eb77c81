use Rattle.std.proofs.Common.{ap}
use Rattle.feed_kbart.specs.RecordBytes.{cells_in, number_of}
use Rattle.feed_kbart.specs.RowValue.{RowValue}
use Rattle.feed_kbart.proofs.RowContents.{of_record}
use Rattle.feed_kbart.proofs.row.Row.cells.Goals as goal

pub returns-clause-content : goal.returns-clause-content
returns-clause-content c = rw (← c.self.view_is) (of_record c.cells.result (number_of c.self.inside.record) (cells_in c.self.inside.record) c.cells.ensures)

pub returns-clause-identifiers : goal.returns-clause-identifiers
returns-clause-identifiers c =
    rw (← c.self.view_is) (ap (λ (row : RowValue). row.identifiers) (of_record c.cells.result (number_of c.self.inside.record) (cells_in c.self.inside.record) c.cells.ensures))

pub returns-clause-first_day : goal.returns-clause-first_day
returns-clause-first_day c =
    rw (← c.self.view_is) (ap (λ (row : RowValue). row.first_day) (of_record c.cells.result (number_of c.self.inside.record) (cells_in c.self.inside.record) c.cells.ensures))

pub returns-clause-last_day : goal.returns-clause-last_day
returns-clause-last_day c =
    rw (← c.self.view_is) (ap (λ (row : RowValue). row.last_day) (of_record c.cells.result (number_of c.self.inside.record) (cells_in c.self.inside.record) c.cells.ensures))

pub returns-clause-first_volume : goal.returns-clause-first_volume
returns-clause-first_volume c =
    rw (← c.self.view_is) (ap (λ (row : RowValue). row.first_volume) (of_record c.cells.result (number_of c.self.inside.record) (cells_in c.self.inside.record) c.cells.ensures))

pub returns-clause-last_volume : goal.returns-clause-last_volume
returns-clause-last_volume c =
    rw (← c.self.view_is) (ap (λ (row : RowValue). row.last_volume) (of_record c.cells.result (number_of c.self.inside.record) (cells_in c.self.inside.record) c.cells.ensures))

pub returns-clause-title : goal.returns-clause-title
returns-clause-title c =
    rw (← c.self.view_is) (ap (λ (row : RowValue). row.title) (of_record c.cells.result (number_of c.self.inside.record) (cells_in c.self.inside.record) c.cells.ensures))

pub returns-clause-url : goal.returns-clause-url
returns-clause-url c =
    rw (← c.self.view_is) (ap (λ (row : RowValue). row.url) (of_record c.cells.result (number_of c.self.inside.record) (cells_in c.self.inside.record) c.cells.ensures))

pub returns-clause-title_id : goal.returns-clause-title_id
returns-clause-title_id c =
    rw (← c.self.view_is) (ap (λ (row : RowValue). row.title_id) (of_record c.cells.result (number_of c.self.inside.record) (cells_in c.self.inside.record) c.cells.ensures))

pub returns-clause-depth : goal.returns-clause-depth
returns-clause-depth c =
    rw (← c.self.view_is) (ap (λ (row : RowValue). row.depth) (of_record c.cells.result (number_of c.self.inside.record) (cells_in c.self.inside.record) c.cells.ensures))

pub returns-clause-embargo : goal.returns-clause-embargo
returns-clause-embargo c =
    rw (← c.self.view_is) (ap (λ (row : RowValue). row.embargo) (of_record c.cells.result (number_of c.self.inside.record) (cells_in c.self.inside.record) c.cells.ensures))

pub returns-clause-access : goal.returns-clause-access
returns-clause-access c =
    rw (← c.self.view_is) (ap (λ (row : RowValue). row.access) (of_record c.cells.result (number_of c.self.inside.record) (cells_in c.self.inside.record) c.cells.ensures))
