use Rattle.feed_kbart.specs.Columns.{field_of}
use Rattle.feed_kbart.specs.Coverage.{kind_read}
use Rattle.feed_kbart.specs.declared.label.Label.TheVariants.{OnlineIdentifier, PrintIdentifier, PublicationType}
use Rattle.feed_kbart.proofs.RowContents.{of_kind}
use Rattle.feed_kbart.proofs.law.identifiers_are_of_their_kind.Goals as goal

pub returns : goal.returns
returns c columns number fields =
    let of = kind_read (field_of columns PublicationType fields) in
    record { print = of_kind of (field_of columns PrintIdentifier fields); online = of_kind of (field_of columns OnlineIdentifier fields) }
