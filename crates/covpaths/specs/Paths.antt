-- Which path a source file gets by rules `OLD=NEW`.
use Rattle.std.specs.Prelude.{◌≡◌, ◌⊎◌, ◌<◌, ℕ, suc, Bool, true, false, ◌==◌, ◌||◌, if◌then◌else◌, Option, None, Some, List, [], ◌∷◌, ◌++◌, length}
use Rattle.std.specs.Option.{option_map_or}
use Rattle.covdata.specs.Lawful.{IsGoodTest}
use Rattle.covpaths.specs.declared.rule.RuleFault.{RuleFault}
use Rattle.covpaths.specs.declared.rule.RuleFault.TheVariants.{NoSign, NoOld, BadNew, Slashes}

-- source files under `old` get paths under `new`
pub record RuleData : Type 0 where
  pub old : List ℕ
  pub new : List ℕ

-- ---- a rule's word

-- what stands before the first `=` (61) of a word, and what stands after it; `None` for a word without `=`. `front` stands before the
-- word
abbrev pub rule_after : (front word : List ℕ) → Option RuleData
rule_after front [] = None
rule_after front (b ∷ word) = if b == 61 then Some (record { old = front; new = word }) else rule_after (front ++ b ∷ []) word

-- the rule that a word gives
abbrev pub rule_of : (word : List ℕ) → Option RuleData
rule_of word = rule_after [] word

-- whether the last byte is a slash (47)
abbrev pub ends_at_slash : List ℕ → Bool
ends_at_slash [] = false
ends_at_slash (b ∷ []) = b == 47
ends_at_slash (a ∷ b ∷ bytes) = ends_at_slash (b ∷ bytes)

-- a rule that can be used: `old` isn't empty; `new` fits into a line, so each path that it gives does; and both end in a slash or
-- neither does, unless `new` is empty, so no slash is lost or doubled
pub record IsGoodRule (rule : RuleData) : Type 0 where
  pub some : 0 < length rule.old
  pub fits : IsGoodTest rule.new
  pub slashes : (rule.new ≡ []) ⊎ (ends_at_slash rule.old ≡ ends_at_slash rule.new)

-- the word gives no rule that can be used, for this reason
abbrev pub IsRuleFault : (word : List ℕ) → RuleFault → Type 0
IsRuleFault word NoSign = rule_of word ≡ None
IsRuleFault word NoOld = (rule : RuleData) × (rule_of word ≡ Some rule) × (rule.old ≡ [])
IsRuleFault word BadNew = (rule : RuleData) × (rule_of word ≡ Some rule) × (IsGoodTest rule.new → ⊥)
IsRuleFault word Slashes =
    (rule : RuleData) × (rule_of word ≡ Some rule) × (rule.new ≡ [] → ⊥) × (ends_at_slash rule.old ≡ ends_at_slash rule.new → ⊥)

-- ---- one rule

-- nothing, or what begins with a slash
abbrev pub is_apart : (rest : List ℕ) → Bool
is_apart [] = true
is_apart (b ∷ rest) = b == 47

-- what follows a beginning in a path, if the path begins so
abbrev pub rest_after : (old path : List ℕ) → Option (List ℕ)
rest_after [] path = Some path
rest_after (a ∷ old) [] = None
rest_after (a ∷ old) (b ∷ path) = if a == b then rest_after old path else None

abbrev pub rest_if_apart : (old : List ℕ) → Option (List ℕ) → Option (List ℕ)
rest_if_apart old None = None
rest_if_apart old (Some rest) = if is_apart rest || ends_at_slash old then Some rest else None

-- what follows `old` in a path, if `old` is the path or ends at a slash in it
abbrev pub rest_under : (old path : List ℕ) → Option (List ℕ)
rest_under old path = rest_if_apart old (rest_after old path)

-- no path is empty
abbrev pub path_of : List ℕ → Option (List ℕ)
path_of [] = None
path_of (b ∷ bytes) = Some (b ∷ bytes)

abbrev pub path_if_any : (new : List ℕ) → (rest : Option (List ℕ)) → Option (List ℕ)
path_if_any new None = None
path_if_any new (Some rest) = path_of (new ++ rest)

-- the path that a rule gives a source file: `new` in place of `old`. `None` if the rule doesn't apply, also if nothing would be left
abbrev pub mapped_by : RuleData → (path : List ℕ) → Option (List ℕ)
mapped_by rule path = path_if_any rule.new (rest_under rule.old path)

-- ---- several rules

-- the place of a rule that applies, and the path that it gives
pub record MappedData : Type 0 where
  pub rule : ℕ
  pub path : List ℕ

abbrev pub mapped_or : Option (List ℕ) → (place : ℕ) → (later : Option MappedData) → Option MappedData
mapped_or None place later = later
mapped_or (Some path) place later = Some (record { rule = place; path = path })

-- the first of the rules that applies; `None` if none does. The rules have places from `place` on
abbrev pub mapped_from : (place : ℕ) → List RuleData → (path : List ℕ) → Option MappedData
mapped_from place [] path = None
mapped_from place (rule ∷ rules) path = mapped_or (mapped_by rule path) place (mapped_from (suc place) rules path)

abbrev pub first_mapped : List RuleData → (path : List ℕ) → Option MappedData
first_mapped rules path = mapped_from 0 rules path

-- the path of a source file by the first rule that applies; its own path if none does. What a rule gives isn't mapped again
abbrev pub mapped_path : List RuleData → (path : List ℕ) → List ℕ
mapped_path rules path = option_map_or (λ m. m.path) (first_mapped rules path) path
