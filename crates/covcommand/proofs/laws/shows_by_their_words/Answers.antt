use Rattle.covcommand.proofs.Calls.{html_few_asked, html_json_refused, html_no_folder_refused, html_some_asked}
use Rattle.covcommand.proofs.laws.shows_by_their_words.Goals as goal

pub returns : goal.returns
returns c = record { few = html_few_asked; some = html_some_asked; no_folder = html_no_folder_refused; json = html_json_refused }
