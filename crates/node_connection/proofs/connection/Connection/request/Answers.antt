use Rattle.node_connection.proofs.HeldBytes.{nothing_yet}
use Rattle.node_connection.proofs.connection.Connection.request.Goals as goal

pub new-requires : goal.new-requires
new-requires c = λ head begins. nothing_yet.not_whole head begins.rest begins.reads
