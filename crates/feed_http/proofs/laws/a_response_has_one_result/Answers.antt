use Rattle.feed_http.proofs.ResponseLaw.{one_result, never_short, no_shorter, only_result}
use Rattle.feed_http.proofs.laws.a_response_has_one_result.Goals as goal

pub returns-clause-one : goal.returns-clause-one
returns-clause-one c = one_result

pub returns-clause-never : goal.returns-clause-never
returns-clause-never c = never_short

pub returns-clause-fault : goal.returns-clause-fault
returns-clause-fault c = only_result

pub returns-clause-front : goal.returns-clause-front
returns-clause-front c = no_shorter
