use Rattle.std.proofs.Common.{◌++◌, ℕ, List, ap, ◌∙◌}
use Rattle.std.specs.List.{flat_map}
use Rattle.std.specs.Str.Chunks.{utf8_chunks_rest}
use Rattle.covhtml.specs.Shown.{shown_byte}
use Rattle.covhtml.proofs.Chunks.{chunk_put, chunks_end, mark}
use Rattle.covhtml.proofs.shown.put_shown.Goals as goal

pub loop-chunk-preserved : goal.loop-chunk-preserved
loop-chunk-preserved g c =
    let text = g.P.Printer.text in
    let steps = c.in-Some.ensures.steps in
    let t : List ℕ = text c.loop-chunk.out in
    let t1 : List ℕ = text c.put_bytes.new.out in
    chunk_put (utf8_chunks_rest c.loop-chunk.chunk-iterator) _ _ (utf8_chunks_rest c.next.new.self) t t1 (text c.put_mark.new.out) _
    steps.0 steps.3.0 steps.3.1 steps.2 c.loop-chunk.invariant
    (c.put_bytes.ensures ∙ ap (λ (x : List ℕ). t ++ flat_map shown_byte x) (c.as_bytes.ensures.value ∙ c.valid.ensures))
    (c.put_mark.ensures ∙ ap (λ (x : List ℕ). t1 ++ mark x) c.invalid.ensures)

pub returns : goal.returns
returns g c = chunks_end (utf8_chunks_rest c.loop-chunk.chunk-iterator) (g.P.Printer.text c.loop-chunk.out) _ c.in-None.ensures.steps.0 c.loop-chunk.invariant
