use Rattle.std.proofs.Common.{◌≡◌, ◌++◌, drop, map}
use Rattle.std.specs.List.{flat_map}
use Rattle.covhtml.specs.PagesView.{test_totals_data}
use Rattle.covhtml.specs.SourcePage.{test_row}
use Rattle.covhtml.proofs.source_page.put_test_rows.Given as goal

abbrev pub invariant-loop-test : goal.invariant-loop-test
invariant-loop-test g l =
    g.P.Printer.text l.out ++ flat_map test_row (map test_totals_data (drop l.test-index l.tests)) ≡ g.P.Printer.text l.fn.out ++ flat_map test_row (map test_totals_data l.tests)
