use Rattle.node_server.proofs.socket.SocketStream.transfer.Goals as goal

pub returns-clause-moved : goal.returns-clause-moved
returns-clause-moved g c = λ history state.
    let it = c.run_connection-progress.ensures.advanced history state in
    record {
      more = it.more;
      state = it.state;
      replies_made = it.replies_made;
      bytes_counted = it.bytes_counted;
      replies_covered = it.replies_covered;
      replies_counted = it.replies_counted;
    }
