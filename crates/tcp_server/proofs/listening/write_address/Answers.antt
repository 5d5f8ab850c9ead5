use Rattle.std.proofs.Common.{◌∙◌, subst}
use Rattle.std.specs.Io.KnownBytes.{Appends}
use Rattle.std.proofs.KnownBytes.{Appends-kept}
use Rattle.tcp_server.specs.Listening.{listening_line}
use Rattle.server_notes.proofs.Telling.{on_ok}
use Rattle.tcp_server.proofs.listening.write_address.Goals as goal

pub returns : goal.returns
returns g c =
    let written : Appends (g.W.Write.contents c.args.out.now) (g.W.Write.contents c.write_all.new.self) (listening_line c.args.address) =
    subst (λ bs. Appends (g.W.Write.contents c.args.out.now) (g.W.Write.contents c.write_all.new.self) bs) (c.as_bytes.ensures.value ∙ c.in_ok-line.ensures.ok) c.in_ok-write_all.ensures.bytes in
    on_ok c.flush.result (record { address = c.args.address; written = Appends-kept _ _ _ _ written c.flush.ensures.bytes })
