-- How an item is packed. It has one word. What doesn't fit into the word is in a list of numbers, and names and checksums are in
-- a list of bytes; all items share these two lists. A word below 2^63 is short: from its lowest bit on, it has a kind (2 bits), a
-- line (30 bits), and 31 bits for the count of a line without a checksum, or for the index of the item's first number. Any other
-- word is 2^63 and the index of the first of six numbers, which are the item's parts.
use Rattle.std.specs.Prelude.{ℕ, ◌+◌, ◌-◌, ◌*◌, ◌/◌, ◌%◌, ◌==◌, nat_lt, List, take, drop, Some, None, if◌then◌else◌, slice_index_or}
use Rattle.covdata.specs.Row.{ItemData, LineItem, FuncItem, BranchItem}
use Rattle.covpacked.specs.declared.parts.Kind.{Kind}
use Rattle.covpacked.specs.declared.parts.Kind.TheVariants.{Line, Checked, Taken, Untaken, Function}
use Rattle.covpacked.specs.declared.parts.Parts.{Parts}

-- so many bytes of the texts, from an index on
abbrev pub text_at : List ℕ → ℕ → ℕ → List ℕ
text_at texts begin bytes = take bytes (drop begin texts)

-- the item with these parts, whose text is in the list of texts
abbrev pub item_of_kind : List ℕ → Parts → Kind → ItemData
item_of_kind texts p Line = LineItem p.line p.count None
item_of_kind texts p Checked = LineItem p.line p.count (Some (text_at texts p.first p.second))
item_of_kind texts p Taken = BranchItem p.line p.first p.second (Some p.count)
item_of_kind texts p Untaken = BranchItem p.line p.first p.second None
item_of_kind texts p Function = FuncItem (text_at texts p.first p.second) p.line p.count

abbrev pub item_of_parts : List ℕ → Parts → ItemData
item_of_parts texts p = item_of_kind texts p p.kind

-- the number of a kind in a word or in the list of numbers
abbrev pub kind_number : Kind → ℕ
kind_number Line = 0
kind_number Checked = 1
kind_number Taken = 2
kind_number Untaken = 3
kind_number Function = 4

abbrev pub kind_of : ℕ → Kind
kind_of n = if n == 0 then Line else if n == 1 then Checked else if n == 2 then Taken else if n == 3 then Untaken else Function

-- the number at an index; 0 where there is none
abbrev pub number_at : List ℕ → ℕ → ℕ
number_at numbers index = slice_index_or numbers index 0

-- the least word that isn't short: 2^63
abbrev pub long_word : ℕ
long_word = 9223372036854775808

abbrev pub line_in : ℕ → ℕ
line_in word = word / 4 % 1073741824

-- what a short word has above its line
abbrev pub upper_in : ℕ → ℕ
upper_in word = word / 4294967296

-- the parts of a short word with this line and this upper half. No function has a short word
abbrev pub short_parts : List ℕ → ℕ → ℕ → Kind → Parts
short_parts numbers line upper Line = record { kind = Line; line = line; count = upper; first = 0; second = 0 }
short_parts numbers line upper Checked = record { kind = Checked; line = line; count = number_at numbers upper % 4294967296; first = number_at numbers (upper + 1); second = number_at numbers upper / 4294967296 }
short_parts numbers line upper Taken = record { kind = Taken; line = line; count = number_at numbers upper / 4294967296; first = number_at numbers upper % 65536; second = number_at numbers upper / 65536 % 65536 }
short_parts numbers line upper Untaken = record { kind = Untaken; line = line; count = number_at numbers upper / 4294967296; first = number_at numbers upper % 65536; second = number_at numbers upper / 65536 % 65536 }
short_parts numbers line upper Function = record { kind = Line; line = line; count = upper; first = 0; second = 0 }

-- the parts that are the six numbers from an index on: the kind, the line, the lower and the upper half of the count, and two more
abbrev pub long_parts : List ℕ → ℕ → Parts
long_parts numbers begin = record {
  kind = kind_of (number_at numbers begin);
  line = number_at numbers (begin + 1);
  count = number_at numbers (begin + 3) * 18446744073709551616 + number_at numbers (begin + 2);
  first = number_at numbers (begin + 4);
  second = number_at numbers (begin + 5);
}

abbrev pub parts_of : List ℕ → ℕ → Parts
parts_of numbers word = if nat_lt word long_word then short_parts numbers (line_in word) (upper_in word) (kind_of (word % 4)) else long_parts numbers (word - long_word)

-- the item of a word
abbrev pub item_of : List ℕ → List ℕ → ℕ → ItemData
item_of numbers texts word = item_of_parts texts (parts_of numbers word)

-- an item of this kind has a text
abbrev pub HasItsText : Kind → Type 0
HasItsText Line = ⊥
HasItsText Checked = Unit {0}
HasItsText Taken = ⊥
HasItsText Untaken = ⊥
HasItsText Function = Unit {0}

-- an item of this kind has no text
abbrev pub HasNoText : Kind → Type 0
HasNoText Line = Unit {0}
HasNoText Checked = ⊥
HasNoText Taken = Unit {0}
HasNoText Untaken = Unit {0}
HasNoText Function = ⊥

-- the item of this kind with this line, count and text
abbrev pub item_with_text : Kind → ℕ → ℕ → List ℕ → ItemData
item_with_text Line line count text = LineItem line count None
item_with_text Checked line count text = LineItem line count (Some text)
item_with_text Taken line count text = LineItem line count None
item_with_text Untaken line count text = LineItem line count None
item_with_text Function line count text = FuncItem text line count
