use Rattle.std.proofs.Common.{ap, ◌∙◌}
use Rattle.server_core.proofs.Attending.{ended_over, outbox_begins}
use Rattle.server_core.proofs.sessions.serve_devices.Goals as goal

pub returns : goal.returns
returns g c =
    let same = ap (λ s. g.W.Sink.contents s.outlet.device) c.new-sink.ensures.sink ∙ ap g.W.Sink.contents c.in_ok-settling.ensures.device in
    ended_over g.M.Marker.origin c.args.server.now.shared.now.names.items _ _ _ _ _ (λ s. s.why) (λ s. s.ends.items) _
    (outbox_begins (g.W.Sink.contents c.new-sink.result.sink.outlet.device) (g.W.Sink.contents c.args.device) _ c.new-sink.ensures.empty same) c.serve_session.ensures.session
