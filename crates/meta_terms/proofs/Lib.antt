pub mod WholeTemplates
