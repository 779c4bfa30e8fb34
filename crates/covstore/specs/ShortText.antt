-- The bytes of a text that is kept in one of two forms.
use Rattle.std.specs.Prelude.{List, ℕ}
use Rattle.covstore.specs.declared.short_text.Form.{Form}
use Rattle.covstore.specs.declared.short_text.Form.TheVariants.{Short, Long}

abbrev pub bytes_of : {A : Type 0} → Form A → List ℕ
bytes_of (Short text) = text
bytes_of (Long text) = text
