-- The checksums of rows that agree are decided by the rows' content.
use Rattle.std.proofs.Common.{◌≡◌, ℕ, Bool, true, false, ◌&&◌, eqb, Option, Some, None, List, [], ◌∷◌, ◌++◌, filter, refl, sym, ap, ◌∙◌, subst, inl, inr, ⊎_elim}
use Rattle.std.specs.Prelude.{Contains}
use Rattle.std.specs.List.{flat_map}
use Rattle.std.specs.Str.{bytes_eq}
use Rattle.std.proofs.lemmas.Bool.{cases_Bool, cond-false, cond-true, eq-eqb, eqb-true}
use Rattle.std.proofs.lemmas.Option.{same_Some, none-some}
use Rattle.std.proofs.lemmas.Slice.Eq.{bytes_eq-Decides}
use Rattle.covdata.specs.Row.{ItemData, LineItem, FuncItem, BranchItem, Row}
use Rattle.covtable.specs.Clash.{Checksum, ClashData, Agree, IsFirstClash, differs, first_clash, checksum_of, checksum_of_row, checksums_in}
use Rattle.covtable.specs.Content.{LineValueData, content_of}
use Rattle.covtable.specs.Value.{Key, key_of_row, has_key, items_at, checksum_said, first_of, line_checksum}
use Rattle.covtable.proofs.Clashes.{agree_none, first_told, last_true, none_told, told_first}
use Rattle.covtable.proofs.ContentsLists.{In-flat, In-unflat, In-filter, In-unfilter}
use Rattle.covtable.proofs.ContentsSections.{own_key, lines_same}
use Rattle.covtable.proofs.Members.{In, In-from, Contains-from, In-map, In-unmap, In-joined, In-parts}

-- ---- the checksums of rows, and what the items of a file and a test give as the checksums of a line

checksum_with : List ℕ → ℕ → List ℕ → Checksum
checksum_with file line checksum = record { file = file; line = line; checksum = checksum }

-- a checksum that an item gives for a line is a checksum of that line
said_of_line : (file : List ℕ) (line : ℕ) (said : List ℕ) (item : ItemData) → In said (checksum_said line item) → In (checksum_with file line said) (checksum_of file item)
unfolding checksum_with
said_of_line file line said (LineItem at count (Some checksum)) i =
    ⊎_elim
    (λ (e : eqb at line ≡ true).
    ⊎_elim
    (λ (is : checksum ≡ said). inl (ap (λ (n : ℕ). checksum_with file n checksum) (eqb-true at line e) ∙ ap (checksum_with file line) is))
    (λ (none : ⊥). absurd none)
    (subst (In said) (cond-true (eqb at line) (checksum ∷ []) [] e) i))
    (λ (e : eqb at line ≡ false). absurd (subst (In said) (cond-false (eqb at line) (checksum ∷ []) [] e) i))
    (cases_Bool (eqb at line))
said_of_line file line said (LineItem at count None) i = absurd i
said_of_line file line said (FuncItem name start count) i = absurd i
said_of_line file line said (BranchItem at block branch taken) i = absurd i

-- conversely, a checksum that an item gives in a file is of this file, and the item gives it for the checksum's line
pub line_of_said : (file : List ℕ) (c : Checksum) (item : ItemData) → In c (checksum_of file item) → (file ≡ c.file) × In c.checksum (checksum_said c.line item)
line_of_said file c (LineItem at count (Some checksum)) (inl is) = (
  ap (λ (d : Checksum). d.file) is,
  subst (In c.checksum) (sym (cond-true (eqb at c.line) (checksum ∷ []) [] (eq-eqb at c.line (ap (λ (d : Checksum). d.line) is)))) (inl (ap (λ (d : Checksum). d.checksum) is)),
)
line_of_said file c (LineItem at count (Some checksum)) (inr i) = absurd i
line_of_said file c (LineItem at count None) i = absurd i
line_of_said file c (FuncItem name start count) i = absurd i
line_of_said file c (BranchItem at block branch taken) i = absurd i

said_at : Key → ℕ → List Row → List (List ℕ)
said_at key line rows = flat_map (checksum_said line) (items_at key rows)

-- a checksum that is given for a line in a file and a test is among the checksums of the rows
said_among : (rows : List Row) (key : Key) (line : ℕ) (said : List ℕ) → In said (said_at key line rows) → In (checksum_with key.file line said) (checksums_in rows)
unfolding said_at
said_among rows key line said i =
    let item = In-unflat (checksum_said line) (items_at key rows) said i in
    let row = In-unmap (λ (row : Row). row.item) (filter (has_key key) rows) item.0 item.1 in
    let own = In-unfilter (has_key key) rows row.0 row.1 in
    let here : In (checksum_with row.0.file line said) (checksum_of_row row.0) =
    said_of_line row.0.file line said row.0.item (subst (λ (x : ItemData). In said (checksum_said line x)) (sym row.2) item.2) in
    subst (λ (k : Key). In (checksum_with k.file line said) (checksums_in rows)) (own_key key row.0 own.1)
    (In-flat checksum_of_row rows row.0 (checksum_with row.0.file line said) own.0 here)

pub own_row : (row : Row) → has_key (key_of_row row) row ≡ true
own_row row =
    ap (λ (b : Bool). b && bytes_eq row.test row.test) ((bytes_eq-Decides row.file row.file).1 refl) ∙ (bytes_eq-Decides row.test row.test).1 refl

-- each checksum is given for its line in some file and test
among_said : (rows : List Row) (c : Checksum) → In c (checksums_in rows) → (key : Key) × (key.file ≡ c.file) × In c.checksum (said_at key c.line rows)
unfolding said_at
among_said rows c i =
    let row = In-unflat checksum_of_row rows c i in
    let line = line_of_said row.0.file c row.0.item row.2 in
    let key = key_of_row row.0 in
    let item : In row.0.item (items_at key rows) = In-map (λ (row : Row). row.item) (filter (has_key key) rows) row.0 (In-filter (has_key key) rows row.0 row.1 (own_row row.0)) in
    (key, line.0, In-flat (checksum_said c.line) (items_at key rows) row.0.item c.checksum item line.1)

-- ---- two lists of rows with one content

has_first : {X : Type 0} (xs : List X) (x : X) → In x xs → (first : X) × (first_of xs ≡ Some first)
has_first [] x i = absurd i
has_first (y ∷ ys) x i = (y, refl)

first_in : {X : Type 0} (xs : List X) (x : X) → first_of xs ≡ Some x → In x xs
first_in [] x e = absurd (none-some x e)
first_in (y ∷ ys) x e = inl (same_Some y x e)

-- if the items of a file and a test give a line a checksum, it is among the checksums of the rows
pub line_checksum_held : (rows : List Row) (key : Key) (line : ℕ) (said : List ℕ) → line_checksum line (items_at key rows) ≡ Some said
    → In (record { file = key.file; line = line; checksum = said }) (checksums_in rows)
unfolding checksum_with said_at
line_checksum_held rows key line said e = said_among rows key line said (first_in (said_at key line rows) said e)

one_checksum : (file : List ℕ) (line : ℕ) (a b : List ℕ) → differs (checksum_with file line a) (checksum_with file line b) ≡ false → a ≡ b
unfolding checksum_with
one_checksum file line a b e =
    (bytes_eq-Decides a b).0 (last_true (bytes_eq file file) (eqb line line) (bytes_eq a b) ((bytes_eq-Decides file file).1 refl) (eq-eqb line line refl) e)

-- if the checksums agree, the items of a file and a test give a line at most one checksum
pub one_said : (rows : List Row) → Agree (checksums_in rows) → (key : Key) (line : ℕ) (a b : List ℕ) → In a (flat_map (checksum_said line) (items_at key rows))
    → In b (flat_map (checksum_said line) (items_at key rows)) → a ≡ b
unfolding checksum_with said_at
one_said rows agree key line a b i j =
    one_checksum key.file line a b
    (agree (checksum_with key.file line a) (checksum_with key.file line b)
    (Contains-from (checksums_in rows) (checksum_with key.file line a) (said_among rows key line a i))
    (Contains-from (checksums_in rows) (checksum_with key.file line b) (said_among rows key line b j)))

pub checksums_there : (rows others : List Row) → Agree (checksums_in rows) → content_of rows ≡ content_of others → (c : Checksum) → In c (checksums_in rows) → In c (checksums_in others)
unfolding checksum_with said_at
checksums_there rows others agree same c i =
    let said = among_said rows c i in
    let key = said.0 in
    let first = has_first (said_at key c.line rows) c.checksum said.2 in
    let own : In (checksum_with key.file c.line first.0) (checksums_in rows) = said_among rows key c.line first.0 (first_in (said_at key c.line rows) first.0 first.1) in
    let there : In (checksum_with key.file c.line first.0) (checksums_in others) =
    said_among others key c.line first.0
    (first_in (said_at key c.line others) first.0 (sym (ap (λ (v : LineValueData). v.checksum) (lines_same rows others same key c.line)) ∙ first.1)) in
    let held : In (checksum_with c.file c.line first.0) (checksums_in rows) = subst (λ (file : List ℕ). In (checksum_with file c.line first.0) (checksums_in rows)) said.1 own in
    let is : first.0 ≡ c.checksum =
    one_checksum c.file c.line first.0 c.checksum (agree (checksum_with c.file c.line first.0) c (Contains-from (checksums_in rows) (checksum_with c.file c.line first.0) held) (Contains-from (checksums_in rows) c i)) in
    subst (λ (d : Checksum). In d (checksums_in others)) (ap (λ (file : List ℕ). checksum_with file c.line first.0) said.1 ∙ ap (checksum_with c.file c.line) is) there

-- ---- a clash depends on which checksums are held, and not on their order

module _ (held others : List Checksum) (there : (c : Checksum) → In c held → In c others) (back : (c : Checksum) → In c others → In c held) where
  agree_there : (more : List Checksum) → Agree (held ++ more) → Agree (others ++ more)
  agree_there more agree a b i j = agree a b (held_too a i) (held_too b j)
    where
      held_too : (c : Checksum) → Contains (others ++ more) c → Contains (held ++ more) c
      held_too c k =
          Contains-from (held ++ more) c
          (In-joined held more c (⊎_elim (λ l. inl (back c l)) (λ l. inr l) (In-parts others more c (In-from (others ++ more) c k))))

  first_there : (given : List Checksum) (clash : ClashData) → IsFirstClash held given clash → IsFirstClash others given clash
  first_there given clash is = record {
    before = is.before;
    first = is.first;
    after = is.after;
    other = is.other;
    place = is.place;
    among = Contains-from (others ++ is.before) is.other
        (In-joined others is.before is.other (⊎_elim (λ l. inl (there is.other l)) (λ l. inr l) (In-parts held is.before is.other (In-from (held ++ is.before) is.other is.among))));
    differ = is.differ;
    none_before = agree_there is.before is.none_before;
    told = is.told;
  }

  pub same_clash_told : (given : List Checksum) (told : Option ClashData) → first_clash held given ≡ told → Agree held → Agree others → told ≡ first_clash others given
  same_clash_told given None e agree agrees = sym (agree_none others given agrees (agree_there given (none_told held given agree e)))
  same_clash_told given (Some clash) e agree agrees = sym (told_first others given clash (first_there given clash (first_told held given clash agree e)))

pub same_checksums_clash : (rows others : List Row) (given : List Checksum) → Agree (checksums_in rows) → Agree (checksums_in others) → content_of rows ≡ content_of others
    → first_clash (checksums_in rows) given ≡ first_clash (checksums_in others) given
same_checksums_clash rows others given agree agrees same =
    same_clash_told (checksums_in rows) (checksums_in others) (checksums_there rows others agree same) (checksums_there others rows agrees (sym same))
    given (first_clash (checksums_in rows) given) refl agree agrees
