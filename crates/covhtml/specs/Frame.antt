-- What each page begins with.
use Rattle.std.specs.Prelude.{ℕ, List, ◌++◌, codes}
use Rattle.covhtml.specs.Shown.{shown}
use Rattle.covhtml.specs.declared.markup.TheConstants.{HEAD, BODY}

-- everything up to the body, with the title of the window
abbrev pub head : (title : List ℕ) → List ℕ
head title = HEAD.now ++ shown title ++ BODY.now

abbrev pub heading : (title : List ℕ) → List ℕ
heading title = codes "<h1>" ++ shown title ++ codes "</h1>\n"
