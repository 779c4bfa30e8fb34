-- If each use of an argument keeps a property of the rows, the rows of a whole parse without a fault have this property.
use Rattle.std.proofs.Common.{◌≡◌, ◌&&◌, ℕ, Bool, zero, suc, true, false, List, [], ◌∷◌, length, drop, Option, Some, None, is_some, cond, refl, subst}
use Rattle.std.specs.Prelude.{encode_utf8, slice_get, fold}
use Rattle.std.specs.Option.{option_map_or}
use Rattle.std.specs.List.{find}
use Rattle.std.specs.Str.{bytes_eq, chars}
use Rattle.clap.specs.Lexer.{long_of, short_of}
use Rattle.clap.specs.Kinds.{Kinds, or_else}
use Rattle.clap.specs.declared.error.kind.ErrorKind.TheVariants as kind
use Rattle.clap.specs.Walk.{Held, Names, Outcome, Row, Rule, Step, Text, Waiting, Walk, done, waits, plain, refused, idle, option, positional, next, trailing, subcommand, value}
use Rattle.clap.specs.Walk.{after_flag, after_step, arg_by_id, arg_by_index, arg_by_long, arg_by_short, attached_value, bundle, bundle_met, bundle_step, flag_met, is_pending, long_met, long_or_other, nothing_held, option_met, option_word, plain_word, reacted, settled, settled_rows, short_met, short_or_plain, subcommand_met, subcommand_or_other, takes_several, takes_values, to_positional, used, used_by_id, walk, walk_from, walked, walked_from, with_default, word_met}
use Rattle.clap.specs.Simple.{Shape}
use Rattle.clap.specs.Faults.{bundle_fault, bundle_step_fault, check_fault, defaults_fault, flag_word_fault, flags_fault, level_fault, long_fault, option_fault, other_fault, positional_fault, react_fault, settle_fault, short_fault, step_fault, stray_fault, turn_fault, use_fault, walk_fault, word_fault}

-- if two parts together have no fault, neither part has one
pub no_faults : (a b : Kinds) → or_else a b ≡ [] → (a ≡ []) × (b ≡ [])
no_faults [] b e = (refl, e)
no_faults (k ∷ ks) b e = absurd cc

-- the rows of a subcommand's arguments, before those that were left out get their defaults
abbrev pub settled_after : Shape → List Text → List Row
settled_after s words = (settled s.rules (walk s.rules [] nothing_held words).held).rows

module _ (P : List Row → Type 0) where
  -- each use of the argument that has no fault keeps the property `P`
  abbrev pub Keeps : Rule → Type 0
  Keeps a = (again : Bool) (values : List Text) (rows : List Row) → use_fault again a values rows ≡ [] → P rows → P (used a values rows)

  abbrev pub EachKeeps : List Rule → Type 0
  EachKeeps [] = Unit {0}
  EachKeeps (a ∷ c) = Keeps a × EachKeeps c

  found_step : (b : Bool) (x a : Rule) (rest : Option Rule) → Keeps x → (rest ≡ Some a → Keeps a) → cond b (Some x) rest ≡ Some a → Keeps a
  found_step true x a rest keep later e =
      let same : x ≡ a = cc in
      subst Keeps same keep
  found_step false x a rest keep later e = later e

  found_keeps : (p : Rule → Bool) (c : List Rule) (a : Rule) → EachKeeps c → find p c ≡ Some a → Keeps a
  found_keeps p [] a each e = absurd cc
  found_keeps p (x ∷ c) a each e = found_step (p x) x a (find p c) each.0 (found_keeps p c a each.1) e

  abbrev FoundKeeps : Option Rule → Type 0
  FoundKeeps found = (a : Rule) → found ≡ Some a → Keeps a

  used_keeps : (again : Bool) (found : Option Rule) (values : List Text) (rows : List Row) → FoundKeeps found
      → option_map_or (λ a. use_fault again a values rows) found [] ≡ [] → P rows → P (used_by_id found values rows)
  used_keeps again None values rows keep none p = p
  used_keeps again (Some a) values rows keep none p = keep a refl again values rows none p

  settled_keeps : (c : List Rule) (again : Bool) (pending : Option (Text × List Text)) (rows : List Row) → EachKeeps c
      → option_map_or (λ p. option_map_or (λ a. use_fault again a p.1 rows) (arg_by_id c p.0) []) pending [] ≡ [] → P rows
      → P (settled_rows c pending rows)
  settled_keeps c again None rows each none p = p
  settled_keeps c again (Some q) rows each none p =
      used_keeps again (arg_by_id c q.0) q.1 rows (λ a is. found_keeps (λ r. bytes_eq r.id q.0) c a each is) none p

  settle_keeps : (c : List Rule) (again : Bool) (h : Held) → EachKeeps c → settle_fault c again h ≡ [] → P h.rows → P (settled c h).rows
  settle_keeps c again h each none p = settled_keeps c again h.pending h.rows each none p

  react_keeps : (c : List Rule) (again : Bool) (a : Rule) (values : List Text) (h : Held) → EachKeeps c → Keeps a
      → react_fault c again a values h ≡ [] → P h.rows → P (reacted c a values h).rows
  react_keeps c again a values h each keep none p =
      let parts = no_faults (settle_fault c again h) (use_fault again a values (settled c h).rows) none in
      keep again values (settled c h).rows parts.1 (settle_keeps c again h each parts.0 p)

  option_keeps : (c : List Rule) (again : Bool) (a : Rule) (v : Option Text) (h : Held) → EachKeeps c → Keeps a
      → option_fault c again a v h ≡ [] → P h.rows → P (option_met c a v h).0.rows
  option_keeps c again a (Some v) h each keep none p = react_keeps c again a (v ∷ []) h each keep none p
  option_keeps c again a None h each keep none p = settle_keeps c again h each none p

  long_at : (c : List Rule) (again : Bool) (a : Rule) (takes : Bool) (v : Option Text) (h : Held) → EachKeeps c → Keeps a
      → cond takes (option_fault c again a v h) (cond (is_some v) (kind.TooManyValues ∷ []) (react_fault c again a [] h)) ≡ []
      → P h.rows → P (cond takes (option_met c a v h) (flag_met c a v h)).0.rows
  long_at c again a true v h each keep none p = option_keeps c again a v h each keep none p
  long_at c again a false (Some v) h each keep none p = p
  long_at c again a false None h each keep none p = react_keeps c again a [] h each keep none p

  long_keeps : (c : List Rule) (again : Bool) (found : Option Rule) (v : Option Text) (h : Held) → EachKeeps c → FoundKeeps found
      → long_fault c again found v h ≡ [] → P h.rows → P (long_met c found v h).0.rows
  long_keeps c again None v h each keep none p = p
  long_keeps c again (Some a) v h each keep none p = long_at c again a (takes_values a) v h each (keep a refl) none p

  short_at : (c : List Rule) (again : Bool) (a : Rule) (takes : Bool) (v : Option Text) (h : Held) (met : Held → Held × Outcome) (fault : Held → Kinds)
      → EachKeeps c → Keeps a → ((g : Held) → fault g ≡ [] → P g.rows → P (met g).0.rows)
      → cond takes (option_fault c again a v h) (or_else (react_fault c again a [] h) (fault (reacted c a [] h))) ≡ []
      → P h.rows → P (cond takes (option_met c a v h) (met (reacted c a [] h))).0.rows
  short_at c again a true v h met fault each keep later none p = option_keeps c again a v h each keep none p
  short_at c again a false v h met fault each keep later none p =
      let parts = no_faults (react_fault c again a [] h) (fault (reacted c a [] h)) none in
      later (reacted c a [] h) parts.1 (react_keeps c again a [] h each keep parts.0 p)

  short_keeps : (c : List Rule) (again : Bool) (found : Option Rule) (rest : Text) (h : Held) (met : Held → Held × Outcome) (fault : Held → Kinds)
      → EachKeeps c → FoundKeeps found → ((g : Held) → fault g ≡ [] → P g.rows → P (met g).0.rows)
      → short_fault c again found rest h fault ≡ [] → P h.rows → P (short_met c found rest h met).0.rows
  short_keeps c again None rest h met fault each keep later none p = p
  short_keeps c again (Some a) rest h met fault each keep later none p =
      short_at c again a (takes_values a) (attached_value rest) h met fault each (keep a refl) later none p

  abbrev StepKeeps : (Text → ℕ → Outcome → Held → Held × Outcome) → (Text → ℕ → Held → Kinds) → Type 0
  StepKeeps met fault = (flags : Text) (skip : ℕ) (so_far : Outcome) (h : Held) → fault flags skip h ≡ [] → P h.rows → P (met flags skip so_far h).0.rows

  step_keeps : (c : List Rule) (again : Bool) (first : Option ℕ) (flags : Text) (skip : ℕ) (so_far : Outcome) (h : Held)
      (met : Text → ℕ → Outcome → Held → Held × Outcome) (fault : Text → ℕ → Held → Kinds) → EachKeeps c → StepKeeps met fault
      → bundle_step_fault c again first flags skip h fault ≡ [] → P h.rows → P (bundle_step c first flags skip so_far h met).0.rows
  step_keeps c again None flags skip so_far h met fault each later none p = p
  step_keeps c again (Some x) flags zero so_far h met fault each later none p =
      let rest = drop (length (encode_utf8 x)) flags in
      short_keeps c again (arg_by_short c x) rest h (met rest 0 done) (fault rest 0) each
      (λ a is. found_keeps _ c a each is) (λ g. later rest 0 done g) none p
  step_keeps c again (Some x) flags (suc skip) so_far h met fault each later none p =
      later (drop (length (encode_utf8 x)) flags) skip so_far h none p

  bundle_keeps : (c : List Rule) (again : Bool) → EachKeeps c → (k : ℕ) → StepKeeps (bundle_met c k) (flags_fault c again k)
  unfolding bundle_met flags_fault
  bundle_keeps c again each zero flags skip so_far h none p = p
  bundle_keeps c again each (suc k) flags skip so_far h none p =
      step_keeps c again (slice_get (chars flags) 0) flags skip so_far h (bundle_met c k) (flags_fault c again k) each
      (bundle_keeps c again each k) none p

  -- ---- a word

  option_word_keeps : (found : Option Rule) (id word : Text) (h : Held) → P h.rows → P (option_word found id word h).0.rows
  option_word_keeps None id word h p = p
  option_word_keeps (Some a) id word h p = p

  plain_keeps : (c : List Rule) (waiting : Waiting) (word : Text) (h : Held) → P h.rows → P (plain_word c waiting word h).0.rows
  plain_keeps c idle word h p = p
  plain_keeps c (option id) word h p = option_word_keeps (arg_by_id c id) id word h p
  plain_keeps c positional word h p = p

  after_keeps : (c : List Rule) (waiting : Waiting) (word : Text) (h : Held) (o : Outcome) → P h.rows → P (after_flag c waiting word h o).0.rows
  after_keeps c waiting word h done p = p
  after_keeps c waiting word h (waits id) p = p
  after_keeps c waiting word h plain p = plain_keeps c waiting word h p
  after_keeps c waiting word h refused p = plain_keeps c waiting word h p

  short_word_keeps : (c : List Rule) (again : Bool) (waiting : Waiting) (word : Text) (flags : Option Text) (h : Held) → EachKeeps c
      → option_map_or (λ fs. bundle_fault c again fs h) flags [] ≡ [] → P h.rows → P (short_or_plain c waiting word flags h).0.rows
  short_word_keeps c again waiting word None h each none p = plain_keeps c waiting word h p
  short_word_keeps c again waiting word (Some flags) h each none p =
      after_keeps c waiting word (bundle c flags h).0 (bundle c flags h).1
      (bundle_keeps c again each (length flags) flags h.skip plain (record h { skip = 0 }) none p)

  flag_keeps : (c : List Rule) (again : Bool) (waiting : Waiting) (word : Text) (long : Option (Text × Option Text)) (h : Held) → EachKeeps c
      → flag_word_fault c again long word h ≡ [] → P h.rows → P (long_or_other c waiting word long h).0.rows
  flag_keeps c again waiting word None h each none p = short_word_keeps c again waiting word (short_of word) h each none p
  flag_keeps c again waiting word (Some q) h each none p =
      after_keeps c waiting word (long_met c (arg_by_long c q.0) q.1 h).0 (long_met c (arg_by_long c q.0) q.1 h).1
      (long_keeps c again (arg_by_long c q.0) q.1 h each (λ a is. found_keeps _ c a each is) none p)

  other_at : (c : List Rule) (again : Bool) (ends : Bool) (waiting : Waiting) (position : ℕ) (word : Text) (h : Held) → EachKeeps c
      → cond ends [] (flag_word_fault c again (long_of word) word h) ≡ [] → P h.rows
      → P (cond ends (h, trailing position) (long_or_other c waiting word (long_of word) h)).0.rows
  other_at c again true waiting position word h each none p = p
  other_at c again false waiting position word h each none p = flag_keeps c again waiting word (long_of word) h each none p

  other_keeps : (s : Shape) (found : Option Text) (waiting : Waiting) (position : ℕ) (word : Text) (h : Held) → EachKeeps s.rules
      → other_fault s found word h ≡ [] → P h.rows → P (subcommand_or_other s.rules found waiting position word h).0.rows
  other_keeps s (Some name) waiting position word h each none p = p
  other_keeps s None waiting position word h each none p =
      other_at s.rules s.args_override_self (bytes_eq word (45 ∷ 45 ∷ [])) waiting position word h each none p

  word_keeps : (s : Shape) (names : Names) (is_trailing : Bool) (waiting : Waiting) (position : ℕ) (word : Text) (h : Held) → EachKeeps s.rules
      → word_fault s names is_trailing waiting word h ≡ [] → P h.rows → P (word_met s.rules names is_trailing waiting position word h).0.rows
  word_keeps s names true waiting position word h each none p = p
  word_keeps s names false waiting position word h each none p =
      other_keeps s (subcommand_met names waiting word) waiting position word h each none p

  -- ---- what a word that is no flag goes to

  positional_at : (c : List Rule) (again : Bool) (a : Rule) (goes_on : Bool) (word : Text) (h : Held) → EachKeeps c
      → cond goes_on [] (settle_fault c again h) ≡ [] → P h.rows → P (cond goes_on h (settled c h)).rows
  positional_at c again a true word h each none p = p
  positional_at c again a false word h each none p = settle_keeps c again h each none p

  positional_keeps : (s : Shape) (found : Option Rule) (word : Text) (w : Walk) (h : Held) → EachKeeps s.rules
      → option_map_or (λ a. positional_fault s.rules s.args_override_self a h) found (stray_fault s) ≡ [] → P h.rows
      → P (to_positional s.rules found word w h).held.rows
  positional_keeps s None word w h each none p = p
  positional_keeps s (Some a) word w h each none p =
      positional_at s.rules s.args_override_self a (is_pending a h.pending && takes_several a) word h each none p

  after_word_keeps : (s : Shape) (word : Text) (w : Walk) (h : Held) (met : Step) → EachKeeps s.rules
      → step_fault s w.position h met ≡ [] → P h.rows → P (after_step s.rules word w h met).held.rows
  after_word_keeps s word w h (next waiting) each none p = p
  after_word_keeps s word w h (trailing position) each none p = p
  after_word_keeps s word w h (subcommand name) each none p = p
  after_word_keeps s word w h value each none p = positional_keeps s (arg_by_index s.rules w.position) word w h each none p

  -- ---- all words

  turn_at : (s : Shape) (names : Names) (stopped : Option (Text × List Text)) (w : Walk) (word : Text) → EachKeeps s.rules
      → cond (is_some stopped) [] (or_else (word_fault s names w.is_trailing w.waiting word w.held)
      (step_fault s w.position (word_met s.rules names w.is_trailing w.waiting w.position word w.held).0
      (word_met s.rules names w.is_trailing w.waiting w.position word w.held).1)) ≡ []
      → P w.held.rows → P (walked_from s.rules names stopped w word).held.rows
  turn_at s names (Some q) w word each none p = p
  turn_at s names None w word each none p =
      let met = word_met s.rules names w.is_trailing w.waiting w.position word w.held in
      let parts = no_faults (word_fault s names w.is_trailing w.waiting word w.held) (step_fault s w.position met.0 met.1) none in
      after_word_keeps s word w met.0 met.1 each parts.1
      (word_keeps s names w.is_trailing w.waiting w.position word w.held each parts.0 p)

  turn_keeps : (s : Shape) (names : Names) (w : Walk) (word : Text) → EachKeeps s.rules → turn_fault s names w word ≡ [] → P w.held.rows
      → P (walked s.rules names w word).held.rows
  unfolding walked
  turn_keeps s names w word each none p = turn_at s names w.stopped w word each none p

  walk_keeps : (s : Shape) (names : Names) (w : Walk) (words : List Text) → EachKeeps s.rules → walk_fault s names w words ≡ [] → P w.held.rows
      → P (fold (walked s.rules names) w words).held.rows
  unfolding walk_fault
  walk_keeps s names w [] each none p = p
  walk_keeps s names w (word ∷ words) each none p =
      let parts = no_faults (turn_fault s names w word) (walk_fault s names (walked s.rules names w word) words) none in
      walk_keeps s names (walked s.rules names w word) words each parts.1 (turn_keeps s names w word each parts.0 p)

  -- if a subcommand has no fault, `P` is true of its rows before the defaults are filled in, and clap's last checks have no fault
  -- after that
  pub level_keeps : (s : Shape) (words : List Text) → EachKeeps s.rules → P [] → level_fault s [] nothing_held words false [] ≡ []
      → P (settled_after s words) × (check_fault s (fold with_default (settled_after s words) s.rules) false ≡ [])
  level_keeps s words each p none =
      let end = (walk s.rules [] nothing_held words).held in
      let walked_on = no_faults (walk_fault s [] (walk_from nothing_held) words) _ none in
      let below = no_faults [] _ walked_on.1 in
      let settles = no_faults (settle_fault s.rules s.args_override_self end) _ below.1 in
      let defaults = no_faults (defaults_fault (settled s.rules end).rows s.rules) _ settles.1 in (
        settle_keeps s.rules s.args_override_self end each settles.0 (walk_keeps s [] (walk_from nothing_held) words each walked_on.0 p),
        defaults.1,
      )
