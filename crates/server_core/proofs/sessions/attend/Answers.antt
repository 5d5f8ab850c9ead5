use Rattle.server_core.proofs.sessions.attend.Goals as goal

pub join_all-requires-clause-promised : goal.join_all-requires-clause-promised
join_all-requires-clause-promised g c = λ κs lives. rw c.of-all.ensures c.in_ok-running.ensures.promised
