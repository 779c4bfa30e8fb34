-- Totals in which a part is replaced, and totals without a point.
use Rattle.std.specs.Prelude.{◌≡◌, ◌+◌, ◌-◌, ◌≤◌, ◌<◌, ◌^◌, Bool, ◌==◌, ◌&&◌}
use Rattle.covtable.specs.declared.totals.Totals.{Totals}

-- no number of the part is larger than the same number of the whole
pub record IsAmong (part whole : Totals) : Type 0 where
  pub lf : part.lf ≤ whole.lf
  pub lh : part.lh ≤ whole.lh
  pub ff : part.ff ≤ whole.ff
  pub fh : part.fh ≤ whole.fh
  pub bf : part.bf ≤ whole.bf
  pub bh : part.bh ≤ whole.bh

-- the sum of each number of `a` and the same number of `b` fits in 64 bits
pub record FitTogether (a b : Totals) : Type 0 where
  pub lf : b.lf + a.lf < 2 ^ 64
  pub lh : b.lh + a.lh < 2 ^ 64
  pub ff : b.ff + a.ff < 2 ^ 64
  pub fh : b.fh + a.fh < 2 ^ 64
  pub bf : b.bf + a.bf < 2 ^ 64
  pub bh : b.bh + a.bh < 2 ^ 64

abbrev pub exchanged : Totals → Totals → Totals → Totals
exchanged whole before after = record {
  lf = whole.lf - before.lf + after.lf;
  lh = whole.lh - before.lh + after.lh;
  ff = whole.ff - before.ff + after.ff;
  fh = whole.fh - before.fh + after.fh;
  bf = whole.bf - before.bf + after.bf;
  bh = whole.bh - before.bh + after.bh;
}

-- if the part `before` of the whole is replaced by `after`, the result is `later`
pub record IsExchange (before after whole later : Totals) : Type 0 where
  pub part : IsAmong before whole
  pub fits : FitTogether after whole
  pub gives : exchanged whole before after ≡ later

abbrev pub no_totals : Totals
no_totals = record { lf = 0; lh = 0; ff = 0; fh = 0; bf = 0; bh = 0 }

-- no point of any kind is found
abbrev pub finds_nothing : Totals → Bool
finds_nothing totals = totals.lf == 0 && totals.ff == 0 && totals.bf == 0

-- the totals whose numbers are each the sum of the same number of `a` and of `b`
abbrev pub together : Totals → Totals → Totals
together a b = record { lf = a.lf + b.lf; lh = a.lh + b.lh; ff = a.ff + b.ff; fh = a.fh + b.fh; bf = a.bf + b.bf; bh = a.bh + b.bh }

-- each total fits in 64 bits
pub record FitTotals (totals : Totals) : Type 0 where
  pub lf : totals.lf < 2 ^ 64
  pub lh : totals.lh < 2 ^ 64
  pub ff : totals.ff < 2 ^ 64
  pub fh : totals.fh < 2 ^ 64
  pub bf : totals.bf < 2 ^ 64
  pub bh : totals.bh < 2 ^ 64
