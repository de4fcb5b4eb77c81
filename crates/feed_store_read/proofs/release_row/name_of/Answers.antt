use Rattle.feed_store_read.proofs.Names.{no_date, no_package_name}
use Rattle.feed_store_read.proofs.release_row.name_of.Goals as goal

pub returns-in-Err-BadDate : goal.returns-in-Err-BadDate
returns-in-Err-BadDate c =
    let why = rw c.in-Err-BadDate.field-0-is at c.in-Err-BadDate.ensures.refused in
    no_date c.args.text.now why.0 why.1 why.2

pub returns-in-Err-BadStem : goal.returns-in-Err-BadStem
returns-in-Err-BadStem c =
    let why = rw c.in-Err-BadStem.field-0-is at c.in-Err-BadStem.ensures.refused in
    no_package_name c.args.text.now why.0 why.1 why.2 why.3 why.4 why.5
