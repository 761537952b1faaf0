-- The laws that the proof of catalog_page cites.
pub mod CatalogLaws
