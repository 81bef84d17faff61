use Rattle.text_commands.proofs.CodeLemmas.{one_page}
use Rattle.text_commands.proofs.page_laws.pages_differ.Goals as goal

pub returns : goal.returns
returns c = one_page
