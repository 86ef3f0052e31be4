use Rattle.ignore_files.proofs.shown.Shown.by.Goals as goal

pub returns-then-listings_are_whole : goal.returns-then-listings_are_whole
returns-then-listings_are_whole g c = λ tree dir honest is name lack.
    c.listings_are_whole.ensures c.if-listings_are_whole.true tree honest.stat honest.list dir name _ is lack
