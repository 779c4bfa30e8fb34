-- Whether a text begins with a key.
use Rattle.std.proofs.Common.{◌≡◌, ◌∙◌, IsTrue, ℕ, List, Option, None, Some, is_some, option_map, ap, refl}
use Rattle.std.proofs.lemmas.Option.{none-some}
use Rattle.covline.specs.Reading.{after_key}
use Rattle.covline.specs.Spells.{Begins}
use Rattle.covline.proofs.ReadKeys.{after_key-same}
use Rattle.covline.proofs.SmallNumbers.{after_some}

-- something follows the key exactly if the text begins with it
pub begins_told : {X : Type 0} (now : X → List ℕ) (key text : List ℕ) (rest : Option X) → option_map now rest ≡ after_key key text
    → (IsTrue (is_some rest) → Begins text key) × (Begins text key → IsTrue (is_some rest))
begins_told now key text None is =
    (λ yes. absurd cc, λ begins. absurd (none-some begins.0 (is ∙ ap (after_key key) begins.1 ∙ after_key-same key begins.0)))
begins_told now key text (Some rest) is = (λ yes. (now rest, after_some key text (now rest) is), λ begins. refl)
