use Rattle.std.specs.Prelude.{◌≡◌, ◌+◌, ◌≤◌, count_by, length, map}
use Rattle.std.specs.Str.{bytes_eq}
use Rattle.covrows.specs.Data.{row_data}
use Rattle.covrows.specs.View.{sections_left}
use Rattle.covtable.specs.Content.{content_of}
use Rattle.covrows.proofs.rows.Rows.sections_of.Given as goal

-- the count so far, and what the sections that are left will add; no more than there are sections
abbrev pub invariant-loop-section : goal.invariant-loop-section
invariant-loop-section g l =
    let content = content_of (map row_data l.self.rows.items) in
    record {
      sum : l.count + count_by (λ s. bytes_eq s.key.test l.test) (sections_left l.sections) ≡ count_by (λ s. bytes_eq s.key.test l.test) content;
      few : l.count + length (sections_left l.sections) ≤ length content;
    }

abbrev pub decreases-loop-section : goal.decreases-loop-section
decreases-loop-section g l = length (sections_left l.sections)
