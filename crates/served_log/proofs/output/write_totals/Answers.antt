use Rattle.std.proofs.Common.{◌≡◌, ◌≤◌, ◌<◌, ◌+◌, [], ◌++◌, map, drop, get_or, arith, rules, refl, sym, ap, ◌∙◌, subst, length, append_assoc, append-nil}
use Rattle.std.specs.Io.KnownBytes.{Appends}
use Rattle.std.proofs.KnownBytes.{Appends-nil, Appends-trans, Appends-kept}
use Rattle.served_log.specs.Totals.{total_line, total_lines}
use Rattle.server_notes.proofs.Telling.{on_ok}
use Rattle.served_log.proofs.Lines.{lines_end, lines_step}
use Rattle.served_log.proofs.output.write_totals.Goals as goal

pub loop-i-init : goal.loop-i-init
loop-i-init g c = ([], Appends-nil _, refl)

pub loop-i-preserved : goal.loop-i-preserved
loop-i-preserved g c =
    let (done, written, same) = c.loop-i.invariant in
    let there : c.loop-i.i < length c.args.totals.now = omega (arith, c.requires, c.loop-i-test.true) in
    let name = (get_or c.args.names.now c.loop-i.i (record { ref_ptr = (0, 0); now = [] })).now in
    let entry : get_or c.args.totals.now c.loop-i.i c.index-totals-i.result ≡ c.index-totals-i.result = search rules in
    let line : Appends (g.W.Write.contents c.loop-i.out) (g.W.Write.contents c.write_total.new.out) (total_line name c.index-totals-i.result) = c.in_ok-write_total.ensures in
    let step = lines_step c.args.names.now c.args.totals.now c.loop-i.i (record { ref_ptr = (0, 0); now = [] }) c.index-totals-i.result c.loop-i-test.true there
    ∙ ap (λ t. total_line name t ++ total_lines (map (λ s. s.now) (drop (c.loop-i.i + 1) c.args.names.now)) (drop (c.loop-i.i + 1) c.args.totals.now)) entry in (
      done ++ total_line name c.index-totals-i.result,
      Appends-trans _ _ _ done (total_line name c.index-totals-i.result) written line,
      same ∙ ap (λ rest. done ++ rest) step ∙ sym (append_assoc done (total_line name c.index-totals-i.result) _),
    )

pub returns : goal.returns
returns g c =
    let (done, written, same) = c.loop-i.invariant in
    let past : length c.args.names.now ≤ c.loop-i.i = search rules in
    on_ok c.flush.result
    (subst (λ bs. Appends (g.W.Write.contents c.args.out.now) (g.W.Write.contents c.flush.new.self) bs)
    (sym (same ∙ ap (λ rest. done ++ rest) (lines_end c.args.names.now c.args.totals.now c.loop-i.i past) ∙ append-nil done))
    (Appends-kept _ _ _ _ written c.flush.ensures.bytes))
