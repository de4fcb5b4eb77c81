use Rattle.feed_answer.proofs.Serials.{answers_stay}
use Rattle.feed_answer.proofs.laws.serial_answers_are_unchanged.Goals as goal

pub returns : goal.returns
returns c = answers_stay
