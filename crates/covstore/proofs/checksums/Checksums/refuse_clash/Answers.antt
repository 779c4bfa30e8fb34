use Rattle.covstore.proofs.Words.{◌≡◌, not, Bool, true, false, List, ℕ, Some, refl, sym, ap, ◌∙◌, bytes_eq, false≢true, bytes_eq-Decides}
use Rattle.std.specs.Option.{is_some}
use Rattle.covstore.proofs.checksums.Checksums.refuse_clash.Goals as goal

-- a copy of a text that differs is another one
other_text : (copy held given : List ℕ) → true ≡ not (bytes_eq held given) → copy ≡ held → copy ≡ given → ⊥
other_text copy held given e same other = false≢true (sym (e ∙ ap not ((bytes_eq-Decides held given).1 (sym same ∙ other))))

-- texts that don't differ are the same
same_text : (held given : List ℕ) → not (bytes_eq held given) ≡ not true → held ≡ given
same_text held given e = (bytes_eq-Decides held given).0 (sym (twice (bytes_eq held given)) ∙ ap not e)
  where
    twice : (b : Bool) → not (not b) ≡ b
    twice true = refl
    twice false = refl

-- the line has a text
pub unreachable-requires : goal.unreachable-requires
unreachable-requires g c = false≢true (ap is_some c.in_default.ensures ∙ c.requires.kept)

pub returns-then-ne-clause-clash : goal.returns-then-ne-clause-clash
returns-then-ne-clause-clash g c = (
  refl,
  c.in_ok-of-2.ensures,
  record {
    is_held = c.requires.held;
    is_kept = sym c.in-Some.ensures ∙ ap Some (sym c.in_ok-of.ensures);
    other = other_text c.in_ok-of.field-0 c.in-Some.held.now c.args.text.now c.if-ne.ensures c.in_ok-of.ensures;
  },
)

pub returns-clause-ok : goal.returns-clause-ok
returns-clause-ok g c =
    sym c.in-Some.ensures ∙ ap Some (same_text c.in-Some.held.now c.args.text.now (sym c.if-ne.ensures))
