-- Rows that fit: each has at least one value. The first value of `--jobs` and of `--expect` is a number in its bounds, and that of a flag
-- is "true" or "false".
use Rattle.std.proofs.Common.{◌≡◌, ◌∙◌, ◌≤◌, ◌&&◌, ◌||◌, ◌⊎◌, inl, inr, not, ℕ, Bool, pos, true, false, List, [], ◌∷◌, ◌++◌, length, Option, Some, None, cond, refl, sym, ap, subst, option_map, unwrap_or, option_and_then, ap₂, codes, arith}
use Rattle.std.specs.Prelude.{fold, slice_get}
use Rattle.std.specs.Option.{option_map_or}
use Rattle.std.specs.List.{find, list_any}
use Rattle.std.specs.Str.{bytes_eq}
use Rattle.std.proofs.lemmas.Bool.{and_parts}
use Rattle.std.proofs.lemmas.Slice.Eq.{bytes_eq-Decides}
use Rattle.clap.specs.Lexer.{without_minus}
use Rattle.clap.specs.Values.{IsSignedIn, read_as}
use Rattle.clap.specs.ValueTests.{accepts}
use Rattle.clap.proofs.ValueTestLemmas.{accepts-Accepts}
use Rattle.clap.specs.Walk.{Row, Rule, Text, at_row, default_rows, has_row, is_empty, more_values, one_of, reading_by, row_text, with_default, with_values, without}
use Rattle.clap.specs.Takes.{is_given}
use Rattle.clap.specs.Facts.{explicit_source}
use Rattle.clap.specs.declared.builder.value_parser.Reading.{Reading}
use Rattle.clap.specs.declared.builder.value_parser.Reading.TheVariants.{AsWritten, WithoutMinus}
use Rattle.clap.specs.declared.builder.value_parser.ValueParser.{ValueParser}
use Rattle.clap.specs.declared.builder.value_parser.ValueParser.TheVariants as parser
use Rattle.clap.specs.declared.parser.matches.ValueSource.{ValueSource}
use Rattle.clap.specs.declared.parser.matches.ValueSource.TheVariants.{CommandLine, DefaultValue}
use Rattle.covcommand.specs.Found.{HasFlag, HasFolder, HasJobs, HasNumberIfAny, HasSome, HasTest}

abbrev pub numbers : (most : ℕ) → ValueParser
numbers most = parser.Signed (pos 1) (pos most)

-- the greatest number that the option takes, if it takes a number
abbrev pub most_of : Text → Option ℕ
most_of id = cond (bytes_eq id (codes "jobs")) (Some 64) (cond (bytes_eq id (codes "expect")) (Some 1048576) None)

abbrev pub is_flag : Text → Bool
is_flag id = bytes_eq id (codes "gcov") || bytes_eq id (codes "lcov2") || bytes_eq id (codes "json") || bytes_eq id (codes "strict")
    || bytes_eq id (codes "large") || bytes_eq id (codes "list") || bytes_eq id (codes "quiet") || bytes_eq id (codes "null")

-- the argument has a value, and its first value fits, as does the way in which the values are read
abbrev pub FitsValues : Text → Reading → List Text → Type 0
FitsValues id how [] = ⊥
FitsValues id how (v ∷ vs) = ((most : ℕ) → most_of id ≡ Some most → (accepts false (numbers most) v ≡ true) × (how ≡ WithoutMinus))
    × (is_flag id ≡ true → (accepts false parser.Bool v ≡ true) × (how ≡ AsWritten))

abbrev pub RowFits : Row → Type 0
RowFits r = FitsValues r.id r.reading r.values

abbrev pub RowsFit : List Row → Type 0
RowsFit [] = Unit {0}
RowsFit (r ∷ rows) = RowFits r × RowsFit rows

both_fit : (xs ys : List Row) → RowsFit xs → RowsFit ys → RowsFit (xs ++ ys)
both_fit [] ys x y = y
both_fit (r ∷ xs) ys x y = (x.0, both_fit xs ys x.1 y)

at_row_step : (b : Bool) (r : Row) (rows changed later : List Row) → RowsFit rows → (b ≡ true → RowsFit changed) → RowFits r → RowsFit later
    → RowsFit (cond b (changed ++ rows) (r ∷ later))
at_row_step true r rows changed later rest new fits fit_later = both_fit changed rows (new refl) rest
at_row_step false r rows changed later rest new fits fit_later = (fits, fit_later)

at_row_fits : (id : Text) (change : Row → List Row) (missing rows : List Row) → RowsFit rows
    → ((r : Row) → bytes_eq r.id id ≡ true → RowFits r → RowsFit (change r)) → RowsFit missing → RowsFit (at_row id change missing rows)
at_row_fits id change missing [] fit new none = none
at_row_fits id change missing (r ∷ rows) fit new none =
    at_row_step (bytes_eq r.id id) r rows (change r) (at_row id change missing rows) fit.1 (λ e. new r e fit.0) fit.0
    (at_row_fits id change missing rows fit.1 new none)

more_fit : (id : Text) (how : Reading) (values more : List Text) → FitsValues id how values → FitsValues id how (values ++ more)
more_fit id how [] more fits = absurd fits
more_fit id how (v ∷ values) more fits = fits

-- rows still fit after a use of an argument that replaces its values
pub set_fits : (id : Text) (how : Reading) (values : List Text) (rows : List Row) → FitsValues id how values → RowsFit rows
    → RowsFit (with_values id how CommandLine values (without id rows))
set_fits id how values rows new fit =
    at_row_fits id (more_values CommandLine values) _ (without id rows)
    (at_row_fits id (λ r. []) [] rows fit (λ r e fits. tt) tt)
    (λ r e fits. (more_fit r.id r.reading r.values values fits, tt)) (new, tt)

-- rows still fit after a use of an argument that adds values to it
pub append_fits : (id : Text) (how : Reading) (source : ValueSource) (values : List Text) (rows : List Row) → FitsValues id how values → RowsFit rows
    → RowsFit (with_values id how source values rows)
append_fits id how source values rows new fit =
    at_row_fits id (more_values source values) _ rows fit
    (λ r e fits. (more_fit r.id r.reading r.values values fits, tt)) (new, tt)

-- ---- what is found

find_step : (id : Text) (b : Bool) (x r : Row) (rest : Option Row) → bytes_eq x.id id ≡ b → RowFits x
    → (rest ≡ Some r → (bytes_eq r.id id ≡ true) × RowFits r) → cond b (Some x) rest ≡ Some r → (bytes_eq r.id id ≡ true) × RowFits r
find_step id true x r rest is fits later e =
    let same : x ≡ r = cc in
    subst (λ (y : Row). (bytes_eq y.id id ≡ true) × RowFits y) same (is, fits)
find_step id false x r rest is fits later e = later e

found_fits : (id : Text) (rows : List Row) (r : Row) → RowsFit rows → find (λ y. bytes_eq y.id id) rows ≡ Some r → (bytes_eq r.id id ≡ true) × RowFits r
found_fits id [] r fit e = absurd cc
found_fits id (x ∷ rows) r fit e =
    find_step id (bytes_eq x.id id) x r (find (λ y. bytes_eq y.id id) rows) refl fit.0 (found_fits id rows r fit.1) e

-- the rows have a row with this id, and this row fits
abbrev pub RowOf : Text → List Row → Type 0
RowOf id rows = (r : Row) × (find (λ y. bytes_eq y.id id) rows ≡ Some r) × (bytes_eq r.id id ≡ true) × RowFits r

given_at : (id : Text) (rows : List Row) (o : Option Row) → find (λ y. bytes_eq y.id id) rows ≡ o → RowsFit rows
    → option_map_or (λ r. explicit_source r.source) o false ≡ true → RowOf id rows
given_at id rows None is fit e = absurd cc
given_at id rows (Some r) is fit e =
    let fits = found_fits id rows r fit is in
    (r, is, fits.0, fits.1)

pub given_row : (id : Text) (rows : List Row) → RowsFit rows → is_given id rows ≡ true → RowOf id rows
given_row id rows fit given = given_at id rows (find (λ y. bytes_eq y.id id) rows) refl fit given

has_step : (b : Bool) (x : Row) (rest : Option Row) (later : Bool) → (later ≡ true → (r : Row) × (rest ≡ Some r)) → (b || later) ≡ true
    → (r : Row) × (cond b (Some x) rest ≡ Some r)
has_step true x rest later go e = (x, refl)
has_step false x rest later go e = go e

has_found : (id : Text) (rows : List Row) → has_row id rows ≡ true → (r : Row) × (find (λ y. bytes_eq y.id id) rows ≡ Some r)
has_found id [] e = absurd cc
has_found id (x ∷ rows) e = has_step (bytes_eq x.id id) x (find (λ y. bytes_eq y.id id) rows) (has_row id rows) (has_found id rows) e

pub held_row : (id : Text) (rows : List Row) → RowsFit rows → has_row id rows ≡ true → RowOf id rows
held_row id rows fit has =
    let found = has_found id rows has in
    let fits = found_fits id rows found.0 fit found.1 in
    (found.0, found.1, fits.0, fits.1)

-- ---- the values of a row

length_some : (id : Text) (how : Reading) (values : List Text) → FitsValues id how values → 1 ≤ length values
length_some id how [] fits = absurd fits
length_some id how (v ∷ vs) fits = omega arith

pub has_some : (id : Text) (rows : List Row) → RowOf id rows → HasSome id rows
has_some id rows row =
    subst (λ (o : Option Row). 1 ≤ length (unwrap_or (option_map (λ r. r.values) o) [])) (sym row.1)
    (length_some row.0.id row.0.reading row.0.values row.3)

first_there : (id : Text) (how : Reading) (values : List Text) → FitsValues id how values → (text : Text) × (slice_get values 0 ≡ Some text)
first_there id how [] fits = absurd fits
first_there id how (v ∷ vs) fits = (v, refl)

pub has_test : (rows : List Row) → RowOf (codes "test") rows → HasTest rows
has_test rows row =
    let first = first_there row.0.id row.0.reading row.0.values row.3 in
    (first.0, ap (λ (o : Option Row). option_and_then (λ r. slice_get r.values 0) o) row.1 ∙ first.1)

pub has_folder : (rows : List Row) → RowOf (codes "output") rows → HasFolder rows
has_folder rows row =
    let first = first_there row.0.id row.0.reading row.0.values row.3 in
    (first.0, ap (λ (o : Option Row). option_and_then (λ r. slice_get r.values 0) o) row.1 ∙ first.1)

number_there : (id : Text) (most : ℕ) (how : Reading) (values : List Text) → most_of id ≡ Some most → FitsValues id how values
    → (text : Text) × (slice_get values 0 ≡ Some text) × (accepts false (numbers most) text ≡ true) × (how ≡ WithoutMinus)
number_there id most how [] is fits = absurd fits
number_there id most how (v ∷ vs) is fits = (v, refl, (fits.0 most is).0, (fits.0 most is).1)

has_number : (id : Text) (most : ℕ) (rows : List Row) → most_of id ≡ Some most → RowOf id rows
    → (text : Text) × (one_of id rows ≡ Some (without_minus text)) × IsSignedIn (pos 1) (pos most) text
has_number id most rows is row =
    let same : row.0.id ≡ id = (bytes_eq-Decides row.0.id id).0 row.2 in
    let number = number_there id most row.0.reading row.0.values is (subst (λ (id : Text). FitsValues id row.0.reading row.0.values) same row.3) in
    let text = ap (λ (o : Option Row). option_and_then row_text o) row.1
    ∙ ap₂ (λ how o. option_map (read_as how) o) number.3 number.1 in
    (number.0, text, accepts-Accepts false (numbers most) number.0 number.2)

pub has_jobs : (rows : List Row) → RowOf (codes "jobs") rows → HasJobs rows
has_jobs rows row = has_number (codes "jobs") 64 rows refl row

number_at : (id : Text) (most : ℕ) (rows : List Row) (o : Option Row) → find (λ y. bytes_eq y.id id) rows ≡ o → most_of id ≡ Some most → RowsFit rows → HasNumberIfAny id most rows
number_at id most rows None found is fit = inl (ap (λ (o : Option Row). option_and_then row_text o) found)
number_at id most rows (Some r) found is fit =
    let fits = found_fits id rows r fit found in
    inr (has_number id most rows is (r, found, fits.0, fits.1))

-- the option's number, if it is given
pub has_number_if_any : (id : Text) (most : ℕ) (rows : List Row) → most_of id ≡ Some most → RowsFit rows → HasNumberIfAny id most rows
has_number_if_any id most rows is fit = number_at id most rows (find (λ y. bytes_eq y.id id) rows) refl is fit

flag_there : (id : Text) (how : Reading) (values : List Text) → is_flag id ≡ true → FitsValues id how values
    → (text : Text) × (slice_get values 0 ≡ Some text) × (accepts false parser.Bool text ≡ true) × (how ≡ AsWritten)
flag_there id how [] flag fits = absurd fits
flag_there id how (v ∷ vs) flag fits = (v, refl, (fits.1 flag).0, (fits.1 flag).1)

either : (a b : Bool) → (a || b) ≡ true → (a ≡ true) ⊎ (b ≡ true)
either true b e = inl refl
either false b e = inr e

pub has_flag : (id : Text) (rows : List Row) → is_flag id ≡ true → RowOf id rows → HasFlag id rows
has_flag id rows flag row =
    let same : row.0.id ≡ id = (bytes_eq-Decides row.0.id id).0 row.2 in
    let word = flag_there id row.0.reading row.0.values flag (subst (λ (id : Text). FitsValues id row.0.reading row.0.values) same row.3) in
    let text = ap (λ (o : Option Row). option_and_then row_text o) row.1
    ∙ ap₂ (λ how o. option_map (read_as how) o) word.3 word.1 in
    elim (either (bytes_eq word.0 (codes "true")) (bytes_eq word.0 (codes "false")) word.2) [
      | inl is ↦ inl (text ∙ ap (λ t. Some t) ((bytes_eq-Decides word.0 (codes "true")).0 is))
      | inr is ↦ inr (text ∙ ap (λ t. Some t) ((bytes_eq-Decides word.0 (codes "false")).0 is))
    ]

-- ---- defaults

or_step : (own a b : Bool) → (a ≡ true → b ≡ true) → (own || a) ≡ true → (own || b) ≡ true
or_step true a b go e = refl
or_step false a b go e = go e

at_row_keeps : (id : Text) (b : Bool) (r changed : Row) (rows later : List Row) → bytes_eq r.id id ≡ bytes_eq changed.id id
    → (has_row id rows ≡ true → has_row id later ≡ true) → has_row id (r ∷ rows) ≡ true → has_row id (cond b (changed ∷ rows) (r ∷ later)) ≡ true
at_row_keeps id true r changed rows later same go e = ap (λ b. b || has_row id rows) (sym same) ∙ e
at_row_keeps id false r changed rows later same go e = or_step (bytes_eq r.id id) (has_row id rows) (has_row id later) go e

-- a row is still there after values are added to some row
values_keep : (id other : Text) (how : Reading) (values : List Text) (rows : List Row) → has_row id rows ≡ true
    → has_row id (with_values other how DefaultValue values rows) ≡ true
values_keep id other how values [] e = absurd cc
values_keep id other how values (r ∷ rows) e =
    at_row_keeps id (bytes_eq r.id other) r _ rows _ refl (values_keep id other how values rows) e

default_keeps : (id other : Text) (how : Reading) (words : List Text) (b : Bool) (rows : List Row) → has_row id rows ≡ true
    → has_row id (cond b rows (default_rows other how words rows)) ≡ true
default_keeps id other how words true rows e = e
default_keeps id other how [] false rows e = e
default_keeps id other how (v ∷ vs) false rows e = values_keep id other how (v ∷ vs) rows e

at_row_has : (id : Text) (b : Bool) (r changed : Row) (rows later : List Row) → bytes_eq r.id id ≡ b → bytes_eq changed.id id ≡ b
    → has_row id later ≡ true → has_row id (cond b (changed ∷ rows) (r ∷ later)) ≡ true
at_row_has id true r changed rows later is same has = rw same refl
at_row_has id false r changed rows later is same has = rw is has

-- an argument to which values are added has a row
values_has : (id : Text) (how : Reading) (values : List Text) (rows : List Row) → has_row id (with_values id how DefaultValue values rows) ≡ true
values_has id how values [] = ap (λ b. b || false) ((bytes_eq-Decides id id).1 refl)
values_has id how values (r ∷ rows) =
    at_row_has id (bytes_eq r.id id) r _ rows _ refl refl (values_has id how values rows)

default_has : (id : Text) (how : Reading) (words : List Text) (b : Bool) (rows : List Row) → has_row id rows ≡ b → not (is_empty words) ≡ true
    → has_row id (cond b rows (default_rows id how words rows)) ≡ true
default_has id how words true rows has some = has
default_has id how [] false rows has some = absurd cc
default_has id how (v ∷ vs) false rows has some = values_has id how (v ∷ vs) rows

-- the argument has this id and a default
abbrev is_defaulted : Text → Rule → Bool
is_defaulted id a = bytes_eq a.id id && not (is_empty a.defaults)

abbrev pub has_default : Text → List Rule → Bool
has_default id rules = list_any (is_defaulted id) rules

rows_keep : (id : Text) (rules : List Rule) (rows : List Row) → has_row id rows ≡ true → has_row id (fold with_default rows rules) ≡ true
rows_keep id [] rows e = e
rows_keep id (a ∷ rules) rows e =
    rows_keep id rules (with_default rows a) (default_keeps id a.id (reading_by a) a.defaults (has_row a.id rows) rows e)

-- once the defaults are filled in, an argument with a default has a row
pub defaulted : (id : Text) (rules : List Rule) (rows : List Row) → has_default id rules ≡ true → has_row id (fold with_default rows rules) ≡ true
defaulted id [] rows e = absurd cc
defaulted id (a ∷ rules) rows e =
    elim (either (is_defaulted id a) (has_default id rules) e) [
      | inl own ↦
          let is = and_parts (bytes_eq a.id id) (not (is_empty a.defaults)) own in
          let has = default_has a.id (reading_by a) a.defaults (has_row a.id rows) rows refl is.1 in
          rows_keep id rules (with_default rows a)
          (subst (λ (i : Text). has_row i (with_default rows a) ≡ true) ((bytes_eq-Decides a.id id).0 is.0) has)
      | inr later ↦ defaulted id rules (with_default rows a) later
    ]

-- the argument has no default, or one that fits
abbrev pub FitsDefault : Text → Reading → List Text → Type 0
FitsDefault id how [] = Unit {0}
FitsDefault id how (v ∷ vs) = FitsValues id how (v ∷ vs)

abbrev pub EachDefaultFits : List Rule → Type 0
EachDefaultFits [] = Unit {0}
EachDefaultFits (a ∷ rules) = FitsDefault a.id (reading_by a) a.defaults × EachDefaultFits rules

default_fits : (id : Text) (how : Reading) (words : List Text) (b : Bool) (rows : List Row) → FitsDefault id how words → RowsFit rows
    → RowsFit (cond b rows (default_rows id how words rows))
default_fits id how words true rows fits fit = fit
default_fits id how [] false rows fits fit = fit
default_fits id how (v ∷ vs) false rows fits fit = append_fits id how DefaultValue (v ∷ vs) rows fits fit

-- rows still fit once the defaults are filled in
pub defaults_fit : (rules : List Rule) (rows : List Row) → EachDefaultFits rules → RowsFit rows → RowsFit (fold with_default rows rules)
defaults_fit [] rows each fit = fit
defaults_fit (a ∷ rules) rows each fit =
    defaults_fit rules (with_default rows a) each.1
    (default_fits a.id (reading_by a) a.defaults (has_row a.id rows) rows each.0 fit)
