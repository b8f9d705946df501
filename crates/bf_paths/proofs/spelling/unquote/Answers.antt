use Rattle.std.proofs.Common.{sym, ap, ◌∙◌, arith, length-drop, length, drop, ◌≡◌}
use Rattle.std.proofs.lemmas.List.{take_rest}
use Rattle.bf_paths.specs.Quoting.{piece_of}
use Rattle.bf_paths.specs.declared.spelling.Piece.TheVariants.{Byte}
use Rattle.bf_paths.proofs.Reading.{unquoted_more}
use Rattle.bf_paths.proofs.spelling.unquote.Goals as goal

pub loop-at-preserved : goal.loop-at-preserved
loop-at-preserved c =
    let text = c.args.text.now in
    let at = c.loop-at.at in
    let rest = take_rest text at in
    let piece : piece_of (drop at text) ≡ Byte c.in-Byte.value c.in-Byte.count =
    ap piece_of (sym rest) ∙ sym c.piece_of.ensures.value ∙ c.in-Byte.is in
    record {
      within = omega (arith, c.in-Byte.ensures.within, ap length rest, length-drop at text);
      so_far = rw c.in_ok-push-in-Byte.ensures.ok
          (unquoted_more text at c.in-Byte.value c.in-Byte.count c.loop-at.bytes _ c.loop-at-test.true c.in-Byte.ensures.within.0 piece
          c.loop-at.invariant.so_far);
    }
