use Rattle.gen_convict.proofs.Linked.{one_text, links_tell, one_text_of_place}
use Rattle.gen_convict.proofs.TextBytes.{link_texts}
use Rattle.gen_convict.proofs.laws.links_tell.Goals as goal

pub returns-clause-text : goal.returns-clause-text
returns-clause-text c = one_text c.one_entry_spelling.ensures

pub returns-clause-entries : goal.returns-clause-entries
returns-clause-entries c = links_tell c.one_entry_spelling.ensures

pub returns-clause-one : goal.returns-clause-one
returns-clause-one c = one_text_of_place

pub returns-clause-bytes : goal.returns-clause-bytes
returns-clause-bytes c = link_texts
