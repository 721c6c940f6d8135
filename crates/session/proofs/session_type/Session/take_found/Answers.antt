use Rattle.std.proofs.Common.{map}
use Rattle.folder_letters.specs.Letters.{plain_letter}
use Rattle.session.proofs.CheckingLemmas.{may_take}
use Rattle.session.proofs.session_type.Session.take_found.Goals as goal

pub take_news-requires-clause-found : goal.take_news-requires-clause-found
take_news-requires-clause-found c =
    may_take c.requires.news.0 (map plain_letter c.args.archive.now.items) c.args.self.now.folder
    c.args.found c.in_ok-news.news.found c.requires.news.2 c.in_ok-news.ensures.found
    c.args.self.now.core.desk.view c.requires.news.1
