use Rattle.feed_http.proofs.ResponseLaw.{given_part, part_of_file}
use Rattle.feed_http.proofs.laws.an_arriving_part_is_of_the_file.Goals as goal

pub returns-clause-given : goal.returns-clause-given
returns-clause-given c = given_part

pub returns-clause-file : goal.returns-clause-file
returns-clause-file c = part_of_file
