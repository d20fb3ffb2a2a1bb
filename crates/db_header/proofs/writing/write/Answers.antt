use Rattle.std.proofs.Common.{refl, arith}
use Rattle.db_header.specs.Header.{two_at, four_at}
use Rattle.db_header.proofs.SpellingLemmas.{size_cells, four_cells, only_header}
use Rattle.db_header.proofs.writing.write.Goals as goal

pub returns-clause-is : goal.returns-clause-is
unfolding two_at four_at
returns-clause-is c =
    record {
      long = omega arith;
      text = refl;
      page_size = c.size_pair.ensures.value;
      served = c.requires;
      versions = refl;
      reserved = refl;
      fractions = refl;
      change_counter = c.quad.ensures.value;
      size = c.quad-2.ensures.value;
      freelist_trunk = c.quad-3.ensures.value;
      freelist_count = c.quad-4.ensures.value;
      schema_cookie = c.quad-5.ensures.value;
      schema_format = refl;
      default_cache_size = c.quad-6.ensures.value;
      largest_root = refl;
      encoding = refl;
      user_version = c.quad-7.ensures.value;
      vacuum = refl;
      application_id = c.quad-8.ensures.value;
      zeros = refl;
      version_valid_for = c.quad-9.ensures.value;
      writer_version = c.quad-10.ensures.value;
    }

pub returns-clause-only : goal.returns-clause-only
returns-clause-only c = λ other small is.
    let header = c.args.header.now in
    only_header other header _ _ _ _ _ _ _ _ _ _ _ (record {
      size_is = size_cells header.page_size c.size_pair.result c.size_pair.ensures.len c.size_pair.ensures.only;
      changes_is = four_cells header.change_counter c.quad.result c.quad.ensures.len c.quad.ensures.only;
      pages_is = four_cells header.size c.quad-2.result c.quad-2.ensures.len c.quad-2.ensures.only;
      trunk_is = four_cells header.freelist_trunk c.quad-3.result c.quad-3.ensures.len c.quad-3.ensures.only;
      count_is = four_cells header.freelist_count c.quad-4.result c.quad-4.ensures.len c.quad-4.ensures.only;
      cookie_is = four_cells header.schema_cookie c.quad-5.result c.quad-5.ensures.len c.quad-5.ensures.only;
      cache_is = four_cells header.default_cache_size c.quad-6.result c.quad-6.ensures.len c.quad-6.ensures.only;
      user_is = four_cells header.user_version c.quad-7.result c.quad-7.ensures.len c.quad-7.ensures.only;
      application_is = four_cells header.application_id c.quad-8.result c.quad-8.ensures.len c.quad-8.ensures.only;
      valid_is = four_cells header.version_valid_for c.quad-9.result c.quad-9.ensures.len c.quad-9.ensures.only;
      writer_is = four_cells header.writer_version c.quad-10.result c.quad-10.ensures.len c.quad-10.ensures.only;
    }) small is
